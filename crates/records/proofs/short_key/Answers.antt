-- `records::short_key` meets its contract. Assumes nothing.
use native.Mathlib.Omega.{arith}
use Prim.Native.Nat.{◌-◌}
use mathlib.Core.Path.{sym}
use mathlib.Core.Bool.{true}
use Rattle.records.proofs.Inside.{ends}
use Rattle.records.proofs.Quick.{short_in}
use Rattle.records.proofs.short_key.Goals as goal

pub slice_bounds-t-end : goal.slice_bounds-t-end
slice_bounds-t-end c = sym (ends c.args.s.now c.args.b c.requires)

pub bounds-t-at : goal.bounds-t-at
bounds-t-at c = omega (arith, ends c.args.s.now c.args.b c.requires, c.if-at-e.true)

pub overflow_cast-n : goal.overflow_cast-n
overflow_cast-n c = omega (arith, c.type_inv.s c.args.at)

pub returns-then-b-n-le-MAX_KEY : goal.returns-then-b-n-le-MAX_KEY
returns-then-b-n-le-MAX_KEY c = sym (short_in c.args.s.now c.args.b c.args.at c.skip_of-skip.result c.requires c.skip_of-skip.ensures c.if-at-e.true c.if-n-lt128.true c.if-b-ne-HISTORY.true c.if-skip-n.true c.if-n-e.true c.if-b-n-le-MAX_KEY.true)
