-- A leaf's headers.
-- Assumes nothing.
use mathlib.Core.Path.{◌≡◌, ap, ◌∙◌}
use mathlib.Core.List.{List}
use Prim.Native.Nat.{ℕ, ◌+◌, ◌-◌}
use lib.ListN.{length}
use Rattle.spans.specs.Span.{put}
use Rattle.frames.specs.declared.BaseHeader.{BaseHeader}
use Rattle.frames.specs.Layout.{slots_at, node_leaf}
use Rattle.frames.specs.Stored.{page_bytes, base_of}
use Rattle.frames.proofs.Stores.{length-heads}
use Rattle.build_sources.specs.Source.{olds, heads}
use Rattle.build_image.specs.declared.Call.{Call}
use Rattle.build_image.specs.Image.{page_box, one_if}
use Rattle.build_bounds.specs.declared.Boundaries.{Boundaries}
use Rattle.build_totals.specs.declared.Totals.{Totals}
use Rattle.build_leaf.specs.Leaf.{leaf_head}

-- ---- headers

pub length_leaf_head : (m : Call) (t : Totals) (e : Boundaries) → length (leaf_head m t e) ≡ slots_at
unfolding leaf_head
length_leaf_head m t e =
    length-heads (page_box m (t.size + t.room) node_leaf 0 0) (base_of t.size t.heads e.sibling.0 e.lo.len e.hi.len e.prefix 0 (one_if t.olds))

pub head_end : (a : List ℕ) (at : ℕ) (m : Call) (t : Totals) (e : Boundaries) (k : ℕ) (b : BaseHeader) (a₁ : List ℕ) → k ≡ one_if t.olds
    → b ≡ base_of t.size t.heads e.sibling.0 e.lo.len e.hi.len e.prefix 0 k
    → a₁ ≡ put a at (page_bytes (page_box m (t.size + t.room) node_leaf 0 0) b)
    → a₁ ≡ put a at (leaf_head m t e)
unfolding leaf_head
head_end a at m t e k b a₁ ek e₁ e₂ = e₂ ∙ ap (λ (h : BaseHeader). put a at (page_bytes (page_box m (t.size + t.room) node_leaf 0 0) h)) (rw ek at e₁)
