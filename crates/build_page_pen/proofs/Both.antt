-- Two leaves at the pen, one behind the other: what is left behind the second is nothing, so all of both is stored.
-- Assumes nothing.
use mathlib.Core.Path.{◌≡◌, refl, sym, ap, subst, ◌∙◌}
use mathlib.Core.List.{List, [], ◌++◌, append-nil}
use Prim.Native.Nat.{ℕ, ◌-◌, ◌≤◌}
use native.Mathlib.Omega.{arith}
use lib.ListN.{length, take}
use Rattle.frames.specs.declared.Body.{Body}
use Rattle.build_sources.specs.Source.{Entry}
use Rattle.build_image.specs.declared.Call.{Call}
use Rattle.law_rows.specs.Rows.{slot_entries, leaf_entries}
use Rattle.build_rows.specs.Judged.{Judged}
use Rattle.build_pen.specs.Pens.{AllLaid}
use Rattle.build_pen.proofs.Penning.{all_begin, all_end}
use Rattle.build_page_pen.specs.declared.Penned.{Penned}
use Rattle.build_page_pen.specs.Runs.{recs_end, left_of, PartPenned}

none_left : (w : List ℕ) (d : Body) → leaf_entries w d 0 0 ≡ []
unfolding slot_entries
none_left w d = refl

module _ (next base : ℕ) (m : Call) (p : ℕ) (a : List ℕ) (b : Body) (from end : ℕ) (d : Body) (n : ℕ) (x : Penned) (a₁ : List ℕ) (y : Penned) where
  abbrev right : List Entry
  right = leaf_entries (take next a) d n 0

  abbrev all : List Entry
  all = leaf_entries (take next a) b (end - from) from ++ right

  abbrev behind : List Entry
  behind = leaf_entries (take next a₁) d (n - 0) 0 ++ leaf_entries (take next a₁) d 0 0

  module _ (h : PartPenned next base m p a x all a₁ y right) where
    behind-is : right ≡ behind
    behind-is =
        let z : n ≡ n - 0 = omega arith in
        ap (λ (w : List ℕ). leaf_entries w d n 0) (sym h.same)
        ∙ ap (λ (k : ℕ). leaf_entries (take next a₁) d k 0) z
        ∙ sym (append-nil (leaf_entries (take next a₁) d (n - 0) 0))
        ∙ ap (λ (xs : List Entry). leaf_entries (take next a₁) d (n - 0) 0 ++ xs) (sym (none_left (take next a₁) d))

    pub still_judged : Judged (take next a) d 0 → Judged (take next a₁) d 0
    still_judged j = subst (λ (w : List ℕ). Judged w d 0) (sym h.same) j

    pub behind-laid : AllLaid next (length a₁) y.pen y.nib y.hint base m p behind
    behind-laid = subst (λ (xs : List Entry). AllLaid next (length a₁) y.pen y.nib y.hint base m p xs) behind-is h.laid

    module _ (a₂ : List ℕ) (z : Penned) (k : PartPenned next base m p a₁ y behind a₂ z (leaf_entries (take next a₁) d 0 0)) where
      ended : (z.nib.rec ≡ recs_end m p z (leaf_entries (take next a₁) d 0 0)) × (a₂ ≡ left_of m z base p (leaf_entries (take next a₁) d 0 0) a₂)
      ended =
          all_end next a₂ _ m base p (length a₂) _ a₂ (leaf_entries (take next a₁) d 0 0) z.pen z.nib z.hint
          (all_begin next a₂ m base p (leaf_entries (take next a₁) d 0 0) z.pen z.nib z.hint k.laid) (none_left (take next a₁) d)

      pub both_penned : (z.nib.rec ≡ recs_end m p x all) × (a₂ ≡ left_of m x base p all a)
      both_penned = (
        ended.0 ∙ k.last ∙ ap (recs_end m p y) (sym behind-is) ∙ h.last,
        ended.1 ∙ k.goes ∙ ap (λ (xs : List Entry). left_of m y base p xs a₁) (sym behind-is) ∙ h.goes,
      )
