-- `build_sweep::second` meets its contract. Assumes nothing.
use native.Mathlib.Omega.{arith}
use mathlib.Core.Path.{refl}
use Rattle.build_sweep.proofs.second.Goals as goal

pub overflow_cast-n : goal.overflow_cast-n
overflow_cast-n c = omega (arith, c.requires)

pub returns-then-after : goal.returns-then-after
returns-then-after c = rw c.if-after.true c.calc_size.ensures

pub returns : goal.returns
returns c = rw c.if-after.false refl
