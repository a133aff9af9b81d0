-- Signed positions: what the machine's tests and casts of them say.
-- Assumes nothing.
use Prim.Native.Nat.{ℕ, ◌<◌, ◌^◌}
use mathlib.Core.Path.{◌≡◌}
use mathlib.Core.Bool.{true, false}
use native.Mathlib.Omega.{arith}
use lib.IntN.{ℤ, pos, negsuc, nat_abs}
use lib.Signed.{lt_z, non_neg}
use lib.Dec.{T}
use mir.Syntax.{Width, w64}
use mir.Val.{to_z, of_z, Fits, SFits}
use mir.ValLaws.{to_z-of_z}

-- a test of two signed numbers is one of the numbers themselves
pub lt_plain : (w : Width) (x y : ℤ) → SFits w x → SFits w y → lt_z (to_z w (of_z w x)) (to_z w (of_z w y)) ≡ lt_z x y
lt_plain w x y fx fy = rw (to_z-of_z w x fx, to_z-of_z w y fy)

pub lt_zero : (x : ℤ) → SFits w64 x → lt_z (to_z w64 (of_z w64 x)) (pos 0) ≡ lt_z x (pos 0)
lt_zero x f = rw (to_z-of_z w64 x f)

-- a number with no sign is cast as it is
fits-plain : (x : ℤ) → SFits w64 x → T (non_neg x) → Fits w64 (nat_abs x)
fits-plain (pos n) f t = let h : n < 2 ^ 63 = f.sfits in record { fits = omega arith }
fits-plain (negsuc n) f t = absurd t

pub cast_ok : (x : ℤ) → SFits w64 x → T (non_neg x) → T (non_neg (to_z w64 (of_z w64 x))) × Fits w64 (nat_abs (to_z w64 (of_z w64 x)))
cast_ok x f t = rw (to_z-of_z w64 x f) (t, fits-plain x f t)

no : {A : Type 0} → true ≡ false → A
no e = absurd (let z : ◌≡◌ {A = ℕ} 0 1 = cc in omega arith)

-- a number that is not below 0, or not below such a one, has no sign
pub not_below : (y : ℤ) → lt_z y (pos 0) ≡ false → T (non_neg y)
not_below (pos n) e = tt
not_below (negsuc n) e = no e

pub above_not_below : (x y : ℤ) → lt_z x y ≡ false → lt_z y (pos 0) ≡ false → T (non_neg x)
above_not_below (pos a) y e f = tt
above_not_below (negsuc a) (pos b) e f = no e
above_not_below (negsuc a) (negsuc b) e f = no f
