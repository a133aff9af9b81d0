-- `walks::up_way` meets its contract. Assumes nothing.
use borrow.Author.Tests.{eq-eqb, ne_eqb}
use Rattle.walks.specs.Walk.{up_way}
use Rattle.walks.proofs.up_way.Goals as goal

pub returns-then-kind-eq-INDEX : goal.returns-then-kind-eq-INDEX
unfolding up_way
returns-then-kind-eq-INDEX c = simp (eq-eqb _ _ c.if-kind-eq-INDEX.true)

pub returns-else-kind-eq-INDEX : goal.returns-else-kind-eq-INDEX
unfolding up_way
returns-else-kind-eq-INDEX c = simp (ne_eqb _ _ c.if-kind-eq-INDEX.false)
