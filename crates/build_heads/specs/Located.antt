-- Where the old versions to come stand, told by a locator that goes along with the heads; one entry's part of the head records.
-- Assumes nothing.
use Rattle.std.specs.Prelude.{ℕ, zero, suc, ◌+◌, ◌-◌, ◌≤◌, ◌≡◌, List, [], ◌++◌, Bool, true, false, cond, drop}
use Rattle.frames.specs.Limits.{max_entries}
use Rattle.build_paging.specs.Cuts.{cuts}
use Rattle.values.specs.declared.HistRef.{HistRef}
use Rattle.build_sources.specs.Source.{Entry}
use Rattle.build_image.specs.Sizes.{remote_len, costs_of}
use Rattle.build_image.specs.Image.{places_in, places, history_end, head_rec, PageSlot}
use Rattle.build_heads.specs.declared.Loc.{Loc}

-- the places of these old versions: those left in the locator's page, then those of the pages behind it
unfoldable pub places_at : ℕ → ℕ → Loc → List Entry → List PageSlot
unfolding places_in places
places_at limit budget p os = places_in p.page p.slot p.left ++ places limit p.next (cuts budget (costs_of limit (drop p.left os))) (drop p.left os)

-- where those pages end
unfoldable pub end_at : ℕ → ℕ → Loc → List Entry → ℕ
unfolding history_end
end_at limit budget p os = history_end limit p.next (cuts budget (costs_of limit (drop p.left os))) (drop p.left os)

-- the same places; and where one is to be named, one at hand if any old version is left
pub record Settled (limit budget : ℕ) (os : List Entry) (named : Bool) (p q : Loc) : Type 0 where
  pub same : places_at limit budget q os ≡ places_at limit budget p os
  pub ends : end_at limit budget q os ≡ end_at limit budget p os
  pub some : named ≡ true → q.left ≡ 0 → os ≡ []
  pub slots : p.slot + p.left ≤ max_entries → q.slot + q.left ≤ max_entries

-- behind an old version; a head moves nothing
abbrev pub onward_of : Bool → Loc → Loc
onward_of true q = record { page = q.page; slot = q.slot + 1; left = q.left - 1; next = q.next }
onward_of false q = q

-- a head's record, none for an old version
unfoldable pub rec_if : ℕ → ℕ → ℕ → HistRef → Entry → List ℕ
unfolding head_rec
rec_if limit p remote h e = cond e.old [] (head_rec limit p remote h e)

-- what a head's remote frame takes; nothing for an old version
unfoldable pub remote_if : Bool → ℕ → ℕ → ℕ → ℕ
remote_if old limit n kept = cond old 0 (remote_len limit n kept)

-- how many old versions a head names; none for an old version
abbrev pub run_if : Bool → ℕ → ℕ
run_if true k = 0
run_if false k = k

abbrev pub named_by : Bool → ℕ → Bool
named_by true k = true
named_by false zero = false
named_by false (suc k) = true
