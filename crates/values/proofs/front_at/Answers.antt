use mathlib.Core.Path.{◌∙◌}
use borrow.Author.Tests.{lt-ltb, le-ltb, le-leb, lt-leb}
use Rattle.values.specs.Vals.{front_at}
use Rattle.values.proofs.front_at.Goals as goal

pub returns-then-s-at : goal.returns-then-s-at
unfolding front_at
returns-then-s-at c = simp (le-ltb _ _ c.if-s-at.true)

pub returns-then-f-gt3 : goal.returns-then-f-gt3
unfolding front_at
returns-then-f-gt3 c = simp (lt-ltb _ _ c.if-s-at.false, lt-leb _ _ c.if-f-gt3.true)

pub returns-then-f : goal.returns-then-f
unfolding front_at
returns-then-f c = simp (lt-ltb _ _ c.if-s-at.false, le-leb _ _ c.if-f-gt3.false, c.if-f.true)

pub returns-then-head : goal.returns-then-head
unfolding front_at
returns-then-head c = c.ref_at.ensures ∙ simp (lt-ltb _ _ c.if-s-at.false, le-leb _ _ c.if-f-gt3.false, c.if-f.false, c.if-head.true)

pub returns : goal.returns
unfolding front_at
returns c = simp (lt-ltb _ _ c.if-s-at.false, le-leb _ _ c.if-f-gt3.false, c.if-f.false, c.if-head.false)
