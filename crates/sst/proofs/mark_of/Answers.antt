use native.Mathlib.Omega.{arith}
use Rattle.sst.proofs.Narrows.{skip_small}
use Rattle.sst.proofs.mark_of.Goals as goal

pub overflow_add-m : goal.overflow_add-m
overflow_add-m c = omega (arith, c.skip_of.ensures, skip_small c.args.b.kind, c.if-b-n-gt-MAX_KEY.false)
