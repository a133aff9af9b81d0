-- An index page whose slots and records are written side by side: what is left of them, and what stands around them.
-- Assumes nothing.
use Rattle.std.specs.Prelude.{ℕ, ◌+◌, ◌-◌, ◌*◌, ◌≤◌, List, [], ◌∷◌, replicate}
use Rattle.spans.specs.Span.{put}
use Rattle.frames.specs.Layout.{box_len, base_len, slots_at, frame_len}
use Rattle.frames.specs.Limits.{max_entries, max_size}
use Rattle.build_sources.specs.Source.{Entry}
use Rattle.build_image.specs.declared.Call.{Call}
use Rattle.build_image.specs.Image.{index_sums, index_slots, index_recs}
use Rattle.build_heads.specs.Steps.{Long}
use Rattle.build_bounds.specs.declared.Boundaries.{Boundaries}
use Rattle.build_pen.specs.Stretches.{Stretch, stretch, Rising}
use Rattle.build_index.specs.Parts.{index_head}

-- what is left of some entries: slots, and records; offsets count from base
abbrev pub index_left : ℕ → ℕ → ℕ → ℕ → List Entry → List Stretch
index_left slot rec base p es = stretch slot (index_slots p (rec - base) es) ∷ stretch rec (index_recs p es) ∷ []

-- they lie above low, in order, and their offsets are small
pub record Laid (long low slot rec base p : ℕ) (es : List Entry) : Type 0 where
  pub order : Rising low (index_left slot rec base p es) long
  pub above : base ≤ rec
  pub small : rec + index_sums p es ≤ base + 4294967295
  pub keys : Long p es

-- all of an index page that no entry tells: headers, boundaries (lo and hi) and rounding
abbrev pub fixed_on : Call → ℕ → ℕ → ℕ → Boundaries → List ℕ → List ℕ → List ℕ → List ℕ
fixed_on m at n size e lo hi a =
    put (put (put (put a at (index_head m n size e.sibling.0 e.lo.len e.hi.len e.prefix)) (at + slots_at + 4 * n) lo) (at + slots_at + 4 * n + e.lo.len) hi)
    (at + (box_len + size)) (replicate (at + frame_len size - (at + (box_len + size))) 0)

-- there is room for it in an arena of this length
pub record Fixes (long footing at : ℕ) (e : Boundaries) (n size : ℕ) : Type 0 where
  pub over : footing ≤ at
  pub few : n ≤ max_entries
  pub small : size ≤ max_size
  pub first : base_len + 4 * n + e.lo.len + e.hi.len ≤ size
  pub shared : e.prefix ≤ e.lo.len
  pub end : at + frame_len size ≤ long
