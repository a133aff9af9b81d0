-- What the judge allows a leaf, and its headers.
-- Assumes nothing.
use Rattle.std.specs.Prelude.{ℕ, ◌+◌, ◌-◌, ◌≤◌, List}
use Rattle.frames.specs.Layout.{node_leaf}
use Rattle.frames.specs.Stored.{page_bytes, base_of}
use Rattle.frames.specs.Limits.{max_key, max_size}
use Rattle.build_sources.specs.Source.{olds, heads}
use Rattle.build_image.specs.declared.Call.{Call}
use Rattle.build_image.specs.Image.{page_box, first_at, one_if}
use Rattle.build_bounds.specs.declared.Boundaries.{Boundaries}
use Rattle.build_totals.specs.declared.Totals.{Totals}

-- what the judge allows: number 8's size, number 1's boundaries
pub record Small (t : Totals) (e : Boundaries) : Type 0 where
  pub size : t.size + t.room ≤ max_size
  pub lo : e.lo.len ≤ max_key
  pub hi : e.hi.len ≤ max_key
  pub prefix : e.prefix ≤ max_key

-- ---- the frame

unfoldable pub leaf_head : Call → Totals → Boundaries → List ℕ
unfolding page_bytes
leaf_head m t e =
    page_bytes (page_box m (t.size + t.room) node_leaf 0 0) (base_of t.size t.heads e.sibling.0 e.lo.len e.hi.len e.prefix 0 (one_if t.olds))

-- where the first record stands
abbrev pub recs_at : Totals → Boundaries → ℕ
recs_at t e = first_at t.heads e.lo.len e.hi.len
