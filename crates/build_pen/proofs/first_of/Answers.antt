-- `build_pen::first_of` meets its contract. Assumes nothing.
use borrow.Author.Tests.{ne_eqb}
use Rattle.build_pen.proofs.first_of.Goals as goal

pub returns-then-run-eq0 : goal.returns-then-run-eq0
returns-then-run-eq0 c = simp c.if-run-eq0.true

pub returns : goal.returns
returns c = simp (ne_eqb _ _ c.if-run-eq0.false)
