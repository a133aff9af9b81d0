-- `c_step::enter_in` meets its contract. Assumes nothing.
use mathlib.Core.Path.{sym, ◌∙◌}
use Rattle.c_step.proofs.One.{enters_not, enters_none, enters_is}
use Rattle.c_step.proofs.enter_in.Goals as goal

pub returns-then-h-eq0 : goal.returns-then-h-eq0
returns-then-h-eq0 c = enters_none c.args.s.now c.args.walk.now c.args.h c.requires.in_bounds c.if-h-eq0.true
