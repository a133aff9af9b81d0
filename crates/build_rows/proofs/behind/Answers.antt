-- `build_rows::behind` meets its contract. Assumes nothing.
use native.Mathlib.Omega.{arith}
use Rattle.build_rows.specs.Fields.{behind_of}
use Rattle.build_rows.proofs.behind.Goals as goal

pub overflow_add-result : goal.overflow_add-result
overflow_add-result c = omega (arith, c.requires c.if-has.true)

pub returns-then-has : goal.returns-then-has
unfolding behind_of
returns-then-has c = rw c.if-has.true

pub returns : goal.returns
unfolding behind_of
returns c = rw c.if-has.false
