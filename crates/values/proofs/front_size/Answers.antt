use borrow.Author.Tests.{eq-eqb, ne_eqb}
use Rattle.values.specs.Vals.{front_size}
use Rattle.values.proofs.front_size.Goals as goal

pub returns-then-count-eq0 : goal.returns-then-count-eq0
unfolding front_size
returns-then-count-eq0 c = simp (eq-eqb _ _ c.if-count-eq0.true)

pub returns-else-count-eq0 : goal.returns-else-count-eq0
unfolding front_size
returns-else-count-eq0 c = simp (ne_eqb _ _ c.if-count-eq0.false)
