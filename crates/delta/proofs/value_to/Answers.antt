-- `delta::value_to` meets its contract. Assumes nothing.
use borrow.Author.Tests.{eq-eqb, ne_eqb}
use Rattle.delta.proofs.value_to.Goals as goal

pub returns-then-next-end : goal.returns-then-next-end
returns-then-next-end c = simp (eq-eqb _ _ c.if-next-end.true)

pub returns : goal.returns
returns c = simp (ne_eqb _ _ c.if-next-end.false)
