-- What the library's comparison of slices says, in `cmp_bytes`, and what follows from it.
-- Assumes nothing.
use Rattle.std.proofs.Common.{◌≡◌, refl, sym, ap, ◌∙◌, List, [], ◌∷◌, length, take, ℕ, ◌<◌, ◌≤◌, Bool, false, leb}
use Rattle.std.specs.Ordering.{nat_cmp}
use Rattle.std.specs.Cmp.Lexicographic.{slice_cmp}
use Rattle.std.specs.declared.cmp.Ordering.{Ordering}
use native.Mathlib.Omega.{arith}
use borrow.Author.Tests.{lt-ltb, le-ltb, eq-eqb, ne_eqb, lt-leb}
use Rattle.order.specs.Order.{cmp_bytes, is_equal, starts_with}
use Rattle.order.specs.Bounds.{meet}
use Rattle.order.proofs.Bounds.{meet_none, meet-some}
use Rattle.order.proofs.Laws.{case_order, starts_cmp, starts-short}

pub compared : (a b : List ℕ) → slice_cmp nat_cmp a b ≡ cmp_bytes a b
unfolding cmp_bytes
compared [] [] = refl
compared [] (y ∷ b) = refl
compared (x ∷ a) [] = refl
compared (x ∷ a) (y ∷ b) =
    case_order x y
    (λ h. simp (lt-ltb x y h))
    (λ h. simp (le-ltb x y (omega arith), le-ltb y x (omega arith), eq-eqb x y h) (compared a b))
    (λ h. simp (le-ltb x y (omega arith), lt-ltb y x h, ne_eqb x y (λ e. omega arith)))

-- ---- a beginning, and boundaries that meet, by a comparison

module _ (p s : List ℕ) where
  pub begins : (o : Ordering) (r : Bool) → length p ≤ length s → o ≡ cmp_bytes p (take (length p) s) → r ≡ is_equal o → r ≡ starts_with p s
  begins o r h e f = f ∙ ap is_equal e ∙ sym (starts_cmp p s h)

  pub begins_not : length s < length p → leb (length p) (length s) ≡ starts_with p s
  begins_not h = lt-leb (length p) (length s) h ∙ sym (starts-short p s h)

module _ (hi lo : List ℕ) (r : Bool) where
  pub met : (o : Ordering) → (length hi ≡ 0 → ⊥) → o ≡ cmp_bytes hi lo → r ≡ is_equal o → r ≡ meet hi lo
  met o n e f = f ∙ ap is_equal e ∙ meet-some hi lo n

  pub met_not : length hi ≡ 0 → r ≡ false → r ≡ meet hi lo
  met_not n e = e ∙ meet_none hi lo n
