-- Laws of tests that several crates cite: two tests that mean the same, and what an answer behind a test says of the test.
-- Assumes nothing.
use Prim.Native.Nat.{ℕ, ◌≤◌}
use mathlib.Core.Path.{◌≡◌, refl, sym, ◌∙◌}
use mathlib.Core.Bool.{Bool, true, false, cond}
use native.Mathlib.Omega.{arith}
use borrow.Author.Tests.{le-leb, leb-true, leb-false}
use lib.Dec.{leb}

-- two tests that mean the same are equal
pub leb_same : (a b c d : ℕ) → (a ≤ b → c ≤ d) → (c ≤ d → a ≤ b) → leb a b ≡ leb c d
leb_same a b c d f g = go (leb a b) refl
  where
    go : (t : Bool) → leb a b ≡ t → leb a b ≡ leb c d
    go true e = e ∙ sym (le-leb c d (f (leb-true a b e)))
    go false e = e ∙ sym (go' (leb c d) refl)
      where
        go' : (t : Bool) → leb c d ≡ t → leb c d ≡ false
        go' true e' = let h = leb-false a b e in let h' = g (leb-true c d e') in absurd (omega arith)
        go' false e' = e'

-- an answer that the refusing arm does not give came from the other arm
pub ask {ℓ} : {A : Type ℓ} (t : Bool) (x bad y : A) → (bad ≡ y → ⊥) → cond t x bad ≡ y → (t ≡ true) × (x ≡ y)
ask true x bad y n e = (refl, e)
ask false x bad y n e = absurd (n e)

pub dont {ℓ} : {A : Type ℓ} (t : Bool) (bad x y : A) → (bad ≡ y → ⊥) → cond t bad x ≡ y → (t ≡ false) × (x ≡ y)
dont true bad x y n e = absurd (n e)
dont false bad x y n e = (refl, e)
