-- What a sweep over a run of old versions and over a leaf's heads is asked and answers.
-- Assumes nothing.
use Rattle.std.specs.Prelude.{ℕ, ◌+◌, ◌-◌, ◌≤◌, ◌<◌, List, [], length, Option, Some, None}
use Rattle.frames.specs.declared.Addr.{Addr}
use Rattle.frames.specs.declared.Body.{Body}
use Rattle.frames.specs.Limits.{max_entries, max_key}
use Rattle.values.specs.declared.HistRef.{HistRef}
use Rattle.law_rows.specs.Rows.{old_entries, leaf_entries}
use Rattle.build_sweep.specs.declared.Tally.{Tally}
use Rattle.build_sweep.specs.declared.Cut.{Cut}
use Rattle.build_rows.specs.Judged.{Runs}
use Rattle.build_rows.specs.Hand.{Opens}
use Rattle.build_page_sweep.specs.Going.{Due, Goes, Over}

-- n old versions from a slot on come next, behind some key's head
pub record RunDue (w : List ℕ) (limit budget n : ℕ) (a : Addr) (i : ℕ) (t : Tally) (g : Cut) : Type 0 where
  pub key : List ℕ
  pub short : length key ≤ max_key
  pub p : ℕ
  pub due : Due p limit budget (old_entries w key n a i) t g

-- a head's old versions, which can be read and of which there are not too many
pub record Run (w : List ℕ) (h : HistRef) (t : Tally) : Type 0 where
  pub runs : Runs w h.count h.page h.slot
  pub opens : 0 < h.count → Opens w h.page
  pub few : t.heads + t.olds + h.count ≤ max_entries

abbrev pub RunSweptBy : List ℕ → ℕ → ℕ → HistRef → Tally → Cut → Tally → Cut → Type 0
RunSweptBy w limit budget h t g u k = (key : List ℕ) (p : ℕ) → length key ≤ max_key → Goes p limit budget (old_entries w key h.count h.page h.slot) t g [] u k

-- a leaf's heads from..end, each with its old versions
abbrev pub PageSweptBy : List ℕ → Body → ℕ → ℕ → ℕ → ℕ → ℕ → Tally → Cut → Option (Tally × Cut) → Type 0
PageSweptBy w b from end p limit budget t g (Some (u, k)) = Goes p limit budget (leaf_entries w b (end - from) from) t g [] u k
PageSweptBy w b from end p limit budget t g None = Over p limit budget (leaf_entries w b (end - from) from) t g
