-- What the meaning says of an answer fits one position only.
-- Assumes nothing.
use Prim.Native.Nat.{ℕ, ◌≤◌, ◌<◌}
use mathlib.Core.Path.{◌≡◌}
use mathlib.Core.List.{List}
use native.Mathlib.Omega.{arith}
use Rattle.order.specs.declared.Ver.{Ver}
use Rattle.frames.specs.declared.PageId.{PageId}
use Rattle.pages.specs.Meaning.{Child, Rows}
use Rattle.sst.specs.Says.{row_count, FirstNotLess, IsFloor}
use Rattle.sst.proofs.Halving.{three}

-- there is one first position not less
module _ (rows : Rows) (probe : List ℕ) (v : Ver) where
  first_below : (q r : ℕ) → r ≤ row_count rows → FirstNotLess rows probe v q → FirstNotLess rows probe v r → q < r → ⊥
  first_below q r l f g h =
      let x = g.before q h in
      let y = f.behind q (omega arith) (omega arith) in
      let z : ◌≡◌ {A = ℕ} 0 1 = cc in
      omega arith

  pub first-only : (q r : ℕ) → q ≤ row_count rows → r ≤ row_count rows → FirstNotLess rows probe v q → FirstNotLess rows probe v r → q ≡ r
  first-only q r k l f g = three q r (λ h. absurd (first_below q r l f g h)) (λ h. h) (λ h. absurd (first_below r q k g f h))

-- there is one greatest key not above
module _ (cs : List Child) (probe : List ℕ) where
  floor_below : (i j : ℕ) (p q : PageId) → IsFloor cs probe i p → IsFloor cs probe j q → i < j → ⊥
  floor_below i j p q f g h = g.not_above (λ z. omega arith) (f.above j h g.inside)

  pub floor_only : (i j : ℕ) (p q : PageId) → IsFloor cs probe i p → IsFloor cs probe j q → i ≡ j
  floor_only i j p q f g = three i j (λ h. absurd (floor_below i j p q f g h)) (λ h. h) (λ h. absurd (floor_below j i q p g f h))
