-- `c_step::step_head` meets its contract. Assumes nothing.
use native.Mathlib.Omega.{arith}
use mathlib.Core.Path.{ap}
use Rattle.walks.specs.declared.Walk.{Walk}
use Rattle.walks.specs.Walk.{moved_of}
use Rattle.c_step.proofs.One.{takes_not, takes_left, took_head, within-long}
use Rattle.c_step.proofs.step_head.Goals as goal

pub returns-then-enter_in : goal.returns-then-enter_in
unfolding moved_of
returns-then-enter_in c = took_head c.args.s.now c.args.walk.now c.args.out.now c.requires.in_bounds c.requires.w_value c.in-Some.r (c.head_read.ensures c.in-Some.r c.in-Some.is) (c.enter_in.ensures.took c.if-enter_in.true) c.onward.ensures c.put_on.ensures c.tell_rec.ensures
