-- "each refusal has its number": none is 0, which says that a call was not refused. Only here every refusal is gone through.
-- Assumes nothing.
use Prim.Native.Nat.{ℕ, ◌<◌}
use mathlib.Core.Path.{◌≡◌}
use mathlib.Core.Logic.{⊎_elim}
use mathlib.Core.Bool.{Bool, true, false, cond}
use native.Mathlib.Omega.{arith}
use Rattle.frames.specs.declared.Refusal.{Refusal}
use Rattle.frames.specs.declared.Refusal.TheVariants.{BadLimit, BadArena, BadList, BadFrame, MixedKinds, OutOfOrder, WrongPrefix, Outside, TooBig, NoRoom}
use Rattle.frames.specs.Refusals.{number_of, ZeroOrFour}

pub some_number : (r : Refusal) → 0 < number_of r
some_number BadLimit = omega arith
some_number BadArena = omega arith
some_number BadList = omega arith
some_number BadFrame = omega arith
some_number MixedKinds = omega arith
some_number OutOfOrder = omega arith
some_number WrongPrefix = omega arith
some_number Outside = omega arith
some_number TooBig = omega arith
some_number NoRoom = omega arith

-- "7 is no answer of" a reader
pub not_seven : (n : ℕ) → ZeroOrFour n → n ≡ 7 → ⊥
not_seven n h e = ⊎_elim (λ (z : n ≡ 0). omega arith) (λ (z : n ≡ 4). omega arith) h

-- a choice between two answers
pub either : {A : Type 0} (number : A → ℕ) (t : Bool) (x y : A) → ZeroOrFour (number x) → ZeroOrFour (number y) → ZeroOrFour (number (cond t x y))
either number true x y h k = h
either number false x y h k = k
