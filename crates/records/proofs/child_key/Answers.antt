-- `records::child_key` meets its contract. Assumes nothing.
use native.Mathlib.Omega.{arith}
use mathlib.Core.Path.{sym}
use Rattle.records.proofs.Quick.{child-short}
use Rattle.records.proofs.child_key.Goals as goal

pub overflow_cast-n : goal.overflow_cast-n
overflow_cast-n c = omega (arith, c.type_inv.t c.args.at)

pub returns-then-n-t : goal.returns-then-n-t
returns-then-n-t c = sym (child-short c.args.t.now c.args.at c.if-at-t.true c.if-n-lt128.true c.if-n-t.true)
