-- `sst::bound_in` meets its contract. Assumes nothing.
use Rattle.std.proofs.Common.{Some}
use mathlib.Core.Path.{ap, ◌∙◌}
use borrow.Author.Tests.{le-ltb, lt-ltb}
use Rattle.sst.proofs.bound_in.Goals as goal

pub returns-in-At : goal.returns-in-At
returns-in-At c = simp (c.in-Some.is ∙ ap Some c.in-At.is)

pub returns-then-p-elems : goal.returns-then-p-elems
returns-then-p-elems c = simp ((c.in-Some.is ∙ ap Some c.in-End.is), lt-ltb _ _ c.if-p-elems.true)

pub returns-else-p-elems : goal.returns-else-p-elems
returns-else-p-elems c = simp ((c.in-Some.is ∙ ap Some c.in-End.is), le-ltb _ _ c.if-p-elems.false)

pub returns-in_default : goal.returns-in_default
returns-in_default c = simp c.in_default.is
