-- The count of equal leading bytes: finishing from here gives the answer; and P3 of document 01.
-- Assumes nothing.
use mathlib.Core.Path.{◌≡◌, refl, ap}
use mathlib.Core.List.{List, [], ◌∷◌}
use mathlib.Core.Bool.{cond}
use Prim.Native.Nat.{ℕ, suc, ◌+◌, ◌≤◌, ◌<◌, min}
use native.Mathlib.Numerals.{add-one}
use native.Mathlib.Omega.{arith}
use lib.ListN.{length, get_or, drop, drop_of_length-le}
use lib.Seq.{drop-cons}
use lib.Dec.{eqb}
use borrow.Author.Tests.{eq-eqb, ne_eqb}
use Rattle.order.proofs.Laws.{case_order}
use Rattle.build_image.specs.Prefix.{common}

pub common_nil : (a : List ℕ) → common a [] ≡ 0
unfolding common
common_nil [] = refl
common_nil (x ∷ a) = refl

pub record Common (a b : List ℕ) (k : ℕ) : Type 0 where
  pub in_a : k ≤ length a
  pub in_b : k ≤ length b
  pub goes : k + common (drop k a) (drop k b) ≡ common a b

module _ (a b : List ℕ) (k : ℕ) (h : Common a b k) where
  pub first_ends : length a ≤ k → k ≡ common a b
  unfolding common
  first_ends e = omega (arith, h.goes, ap (λ (l : List ℕ). common l (drop k b)) (drop_of_length-le a e))

  pub second-ends : length b ≤ k → k ≡ common a b
  second-ends e = omega (arith, h.goes, ap (common (drop k a)) (drop_of_length-le b e), common_nil (drop k a))

  pub ends : min (length a) (length b) ≤ k → k ≡ common a b
  ends e = case_order (length a) (length b) (λ l. first_ends (omega arith)) (λ l. first_ends (omega arith)) (λ l. second-ends (omega arith))

  module _ (p : k < length a) (q : k < length b) where
    opened : common (drop k a) (drop k b) ≡ cond (eqb (get_or a k 0) (get_or b k 0)) (suc (common (drop (k + 1) a) (drop (k + 1) b))) 0
    unfolding common
    opened = rw (drop-cons a k 0 p, drop-cons b k 0 q, add-one k) refl

    pub differ : (get_or a k 0 ≡ get_or b k 0 → ⊥) → k ≡ common a b
    differ d = omega (arith, h.goes, rw (ne_eqb (get_or a k 0) (get_or b k 0) d) at opened)

    pub equal : get_or a k 0 ≡ get_or b k 0 → Common a b (k + 1)
    equal e = record { in_a = omega arith; in_b = omega arith; goes = omega (arith, h.goes, rw (eq-eqb (get_or a k 0) (get_or b k 0) e) at opened) }

-- P3 "lo "ab": hi "ad" gives prefix 1, "ab" 2, no hi 0"
pub p3 : (common (97 ∷ 98 ∷ []) (97 ∷ 100 ∷ []) ≡ 1) × (common (97 ∷ 98 ∷ []) (97 ∷ 98 ∷ []) ≡ 2) × (common (97 ∷ 98 ∷ []) [] ≡ 0)
unfolding common
p3 = (refl, refl, refl)
