-- `walks::Walk::step` meets its contract. Assumes nothing.
use borrow.Author.Tests.{le-ltb, lt-ltb, eq-eqb, ne_eqb}
use Rattle.walks.specs.Walk.{step_at}
use Rattle.walks.proofs.Walk.step.Goals as goal

pub returns-in_default : goal.returns-in_default
unfolding step_at
returns-in_default c = simp (lt-ltb _ _ c.if-self-gt0.true, ← c.next.ensures, c.in_default.is)

pub returns-then-self-gt0 : goal.returns-then-self-gt0
unfolding step_at
returns-then-self-gt0 c = simp (lt-ltb _ _ c.if-self-gt0.true, ← c.next.ensures, c.in-Some.is, c.behind.ensures)

pub returns-then-self-ne0 : goal.returns-then-self-ne0
unfolding step_at
returns-then-self-ne0 c = simp (le-ltb _ _ c.if-self-gt0.false, ne_eqb _ _ c.if-self-ne0.true, c.head.ensures)

pub returns : goal.returns
unfolding step_at
returns c = simp (le-ltb _ _ c.if-self-gt0.false, eq-eqb _ _ c.if-self-ne0.false)
