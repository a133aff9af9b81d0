-- `walks::kind_of` meets its contract. Assumes nothing.
use borrow.Author.Tests.{eq-eqb, ne_eqb}
use Rattle.walks.specs.Walk.{kind_of_way}
use Rattle.walks.proofs.kind_of.Goals as goal

pub returns-then-way-eq-INDEX : goal.returns-then-way-eq-INDEX
unfolding kind_of_way
returns-then-way-eq-INDEX c = simp (eq-eqb _ _ c.if-way-eq-INDEX.true)

pub returns-else-way-eq-INDEX : goal.returns-else-way-eq-INDEX
unfolding kind_of_way
returns-else-way-eq-INDEX c = simp (ne_eqb _ _ c.if-way-eq-INDEX.false)
