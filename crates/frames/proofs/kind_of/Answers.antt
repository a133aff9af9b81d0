-- `frames::kind_of` meets its contract. Assumes nothing.
use borrow.Author.Tests.{eq-eqb, ne_eqb}
use Rattle.frames.specs.Layout.{kind_of}
use Rattle.frames.proofs.kind_of.Goals as goal

pub returns-then-flag-eq-SIBLING : goal.returns-then-flag-eq-SIBLING
unfolding kind_of
returns-then-flag-eq-SIBLING c = simp (eq-eqb _ _ c.if-flag-eq-SIBLING.true)

pub returns-then-is_index-eq1 : goal.returns-then-is_index-eq1
unfolding kind_of
returns-then-is_index-eq1 c = simp (ne_eqb _ _ c.if-flag-eq-SIBLING.false, eq-eqb _ _ c.if-is_index-eq1.true)

pub returns : goal.returns
unfolding kind_of
returns c = simp (ne_eqb _ _ c.if-flag-eq-SIBLING.false, ne_eqb _ _ c.if-is_index-eq1.false)
