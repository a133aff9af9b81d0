-- `pages::multi_of` meets its contract. Assumes nothing.
use borrow.Author.Tests.{eq-eqb, ne_eqb}
use Rattle.pages.specs.Sound.{multi_of}
use Rattle.pages.proofs.multi_of.Goals as goal

pub returns-then-count-eq0 : goal.returns-then-count-eq0
unfolding multi_of
returns-then-count-eq0 c = simp (eq-eqb _ _ c.if-count-eq0.true)

pub returns-else-count-eq0 : goal.returns-else-count-eq0
unfolding multi_of
returns-else-count-eq0 c = simp (ne_eqb _ _ c.if-count-eq0.false)
