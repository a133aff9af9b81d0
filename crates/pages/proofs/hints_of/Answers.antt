-- `pages::hints_of` meets its contract. Assumes nothing.
use borrow.Author.Tests.{eq-eqb, ne_eqb}
use Rattle.pages.specs.HintsAt.{hints_of}
use Rattle.pages.proofs.hints_of.Goals as goal

pub returns-then-count-eq0 : goal.returns-then-count-eq0
unfolding hints_of
returns-then-count-eq0 c = simp (eq-eqb _ _ c.if-count-eq0.true)

pub returns : goal.returns
unfolding hints_of
returns c = simp (ne_eqb _ _ c.if-count-eq0.false)
