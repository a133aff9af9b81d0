-- A leaf that the pen writes: what is stored of it beside its entries, and where its entries and its hints stand.
-- Assumes nothing.
use Rattle.std.specs.Prelude.{ℕ, ◌+◌, ◌-◌, ◌*◌, ◌≤◌, ◌≡◌, List, cond, replicate, eqb}
use Rattle.spans.specs.Span.{put}
use Rattle.numbers.specs.Number.{le}
use Rattle.frames.specs.Layout.{box_len, slots_at}
use Rattle.frames.specs.Limits.{max_entries}
use Rattle.build_image.specs.declared.Call.{Call}
use Rattle.build_bounds.specs.declared.Boundaries.{Boundaries}
use Rattle.build_totals.specs.declared.Totals.{Totals}
use Rattle.build_leaf.specs.declared.HintPlaces.{HintPlaces}
use Rattle.build_leaf.specs.declared.Opened.{Opened}
use Rattle.build_leaf.specs.Leaf.{Small, leaf_head, recs_at}

-- where the hints of pages, of old versions' remotes and of heads' stand; where there is no room, they are none
abbrev pub hint_places : ℕ → ℕ → ℕ → ℕ → HintPlaces
hint_places room at pages aged =
    cond (eqb room 0) (record { pages = at; olds = at; heads = at })
    (record { pages = at + 4; olds = at + 4 + 8 * pages + 4; heads = at + 4 + 8 * pages + 4 + 8 * aged })

-- the hints' two counts, and zeros behind them
unfoldable pub hints_set : ℕ → ℕ → ℕ → ℕ → List ℕ → List ℕ
hints_set room at pages remotes a =
    cond (eqb room 0) a
    (put (put (put a at (le 4 pages)) (at + 4 + 8 * pages) (le 4 remotes)) (at + 4 + 8 * pages + 4 + 8 * remotes) (replicate (at + room - (at + 4 + 8 * pages + 4 + 8 * remotes)) 0))

-- all of a leaf's frame that no entry tells: headers, boundaries (lo and hi), rounding, and the hints' counts
abbrev pub fixed_on : Call → Totals → Boundaries → ℕ → List ℕ → List ℕ → List ℕ → List ℕ
fixed_on m t e remote lo hi a =
    hints_set t.room (t.leaf + (box_len + t.size)) t.pages t.remotes
    (put (put (put (put a t.leaf (leaf_head m t e)) (t.leaf + slots_at + 4 * t.heads) lo) (t.leaf + slots_at + 4 * t.heads + e.lo.len) hi)
    (t.leaf + (box_len + t.size) + t.room) (replicate (remote - (t.leaf + (box_len + t.size) + t.room)) 0))

-- there is room for it in an arena of this length
pub record Fixes (long footing : ℕ) (t : Totals) (e : Boundaries) (remote : ℕ) : Type 0 where
  pub over : footing ≤ t.leaf
  pub small : Small t e
  pub count : t.heads ≤ max_entries
  pub first : recs_at t e ≤ t.size
  pub inside : t.leaf + (box_len + (t.size + t.room)) ≤ remote
  pub end : remote ≤ long
  pub hints : (t.room ≡ 0 → ⊥) → 8 + 8 * t.pages + 8 * t.remotes ≤ t.room
  pub few : t.aged ≤ t.remotes

-- where the entries of a leaf stand whose history begins at an address and whose heads' remote frames at another
abbrev pub opened_at : ℕ → Totals → Boundaries → ℕ → HintPlaces → Opened
opened_at at t e remote k =
    record {
      pen = record { loc = record { page = 0; slot = 0; left = 0; next = at }; nib = record { slot = at; rec = at; remote = at }; pages = k.pages; hint = k.olds };
      nib = record { slot = t.leaf + slots_at; rec = t.leaf + slots_at + 4 * t.heads + e.lo.len + e.hi.len; remote = remote };
      hint = k.heads;
    }
