-- Leaves written anew by the pen: what they hold lies below the footing, which the opened frame leaves as it was.
-- Assumes nothing.
use mathlib.Core.Path.{◌≡◌, sym, ap, subst, ◌∙◌}
use mathlib.Core.List.{List, ◌++◌}
use Prim.Native.Nat.{ℕ, ◌+◌, ◌-◌, ◌≤◌}
use native.Mathlib.Omega.{arith}
use lib.ListN.{length, take}
use Rattle.frames.specs.declared.Body.{Body}
use Rattle.frames.specs.Layout.{box_len, frame_len}
use Rattle.frames.specs.Limits.{max_entries}
use Rattle.build_sources.specs.Source.{Entry, olds}
use Rattle.build_image.specs.declared.Call.{Call}
use Rattle.build_image.specs.Image.{head_recs}
use Rattle.build_heads.specs.Steps.{Long}
use Rattle.build_heads.specs.Located.{places_at}
use Rattle.law_rows.specs.Rows.{leaf_entries}
use Rattle.build_rows.specs.Judged.{Judged}
use Rattle.build_pen.specs.Stretches.{draws}
use Rattle.build_pen.specs.Pens.{all_left, AllLaid}
use Rattle.build_page_pen.specs.declared.Penned.{Penned}
use Rattle.build_page_pen.specs.Runs.{recs_end, left_of}
use Rattle.build_bounds.specs.declared.Boundaries.{Boundaries}
use Rattle.build_bounds.specs.Boundaries.{boundary_bytes, bounds_of, BothWithin}
use Rattle.build_totals.specs.declared.Totals.{Totals}
use Rattle.build_totals.specs.Totals.{totals_of}
use Rattle.build_leaf.specs.declared.HintPlaces.{HintPlaces}
use Rattle.build_leaf.specs.declared.Opened.{Opened}
use Rattle.build_leaf.specs.Leaf.{Small}
use Rattle.build_leaf.specs.Listed.{hint_places, fixed_on, opened_at}
use Rattle.build_leaf.proofs.Listed.{opened-same, pen_asks}

abbrev held : List ℕ → Body → ℕ → ℕ → Body → ℕ → List Entry
held w b from end d n = leaf_entries w b (end - from) from ++ leaf_entries w d n 0

module _ (b : Body) (from end : ℕ) (d : Body) (n : ℕ) (a : List ℕ) (footing at : ℕ) (m : Call) (t : Totals) (lo hi : List ℕ) (e : Boundaries) (over : footing ≤ at) (sm : Small t e)
    (in₁ : BothWithin lo hi (take footing a) e) (long : Long e.prefix (held (take footing a) b from end d n)) (few : length (held (take footing a) b from end d n) ≤ max_entries)
    (te : t ≡ totals_of m (bounds_of lo hi (take footing a) e) at (held (take footing a) b from end d n)) (en : t.end ≤ length a) (x : ℕ) (ex : x ≡ frame_len (t.size + t.room))
    (k : HintPlaces) (ek : k ≡ hint_places t.room (t.leaf + (box_len + t.size)) t.pages t.aged) (a₁ : List ℕ)
    (e₁ : a₁ ≡ fixed_on m t e (t.leaf + x) (boundary_bytes lo (take footing a) e.lo) (boundary_bytes hi (take footing a) e.hi) a) where
  abbrev es : List Entry
  es = held (take footing a) b from end d n

  same : take footing a₁ ≡ take footing a
  same = opened-same es a footing at m t lo hi e over sm in₁ long few te en x ex k ek a₁ e₁

  pub still_judged : (c : Body) → Judged (take footing a) c 0 → Judged (take footing a₁) c 0
  still_judged c j = subst (λ (w : List ℕ). Judged w c 0) (sym same) j

  module _ (o : Opened) (eo : o ≡ opened_at at t e (t.leaf + x) k) where
    pub leaves_asks : AllLaid footing (length a₁) o.pen o.nib o.hint (t.leaf + box_len) m e.prefix (held (take footing a₁) b from end d n)
    leaves_asks =
        subst (λ (w : List ℕ). AllLaid footing (length a₁) o.pen o.nib o.hint (t.leaf + box_len) m e.prefix (held w b from end d n)) (sym same)
        (pen_asks es a footing at m t lo hi e over sm in₁ long few te en x ex k ek a₁ e₁ footing (omega arith) o eo)

    module _ (p : Penned) (ep : p ≡ record { pen = o.pen; nib = o.nib; hint = o.hint }) where
      pub leaves-end : (z : ℕ) → z ≡ recs_end m e.prefix p (held (take footing a₁) b from end d n)
          → z ≡ o.nib.rec + length (head_recs m.limit e.prefix o.nib.remote (places_at m.limit m.budget o.pen.loc (olds es)) es)
      leaves-end z ez = ez ∙ ap (λ (w : List ℕ). recs_end m e.prefix p (held w b from end d n)) same ∙ ap (λ (q : Penned). recs_end m e.prefix q es) ep

      pub leaves-drawn : (a₂ : List ℕ) → a₂ ≡ left_of m p (t.leaf + box_len) e.prefix (held (take footing a₁) b from end d n) a₁
          → a₂ ≡ draws a₁ (all_left m o.pen o.nib o.hint (t.leaf + box_len) e.prefix es)
      leaves-drawn a₂ ea =
          ea ∙ ap (λ (w : List ℕ). left_of m p (t.leaf + box_len) e.prefix (held w b from end d n) a₁) same ∙ ap (λ (q : Penned). left_of m q (t.leaf + box_len) e.prefix es a₁) ep
