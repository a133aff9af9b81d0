use borrow.Author.Tests.{eq-eqb, ne_eqb}
use Rattle.values.specs.Keys.{skip_of}
use Rattle.values.proofs.skip_of.Goals as goal

pub returns-then-kind-eq-INDEX : goal.returns-then-kind-eq-INDEX
unfolding skip_of
returns-then-kind-eq-INDEX c = simp (eq-eqb _ _ c.if-kind-eq-INDEX.true)

pub returns-else-kind-eq-INDEX : goal.returns-else-kind-eq-INDEX
unfolding skip_of
returns-else-kind-eq-INDEX c = simp (ne_eqb _ _ c.if-kind-eq-INDEX.false)
