use borrow.Author.Tests.{lt-ltb, le-ltb, eq-eqb, ne_eqb}
use Rattle.build_image.specs.Sizes.{remote_len}
use Rattle.build_image.proofs.remote_len.Goals as goal

pub returns-then-n-limit : goal.returns-then-n-limit
unfolding remote_len
returns-then-n-limit c = simp (lt-ltb _ _ c.if-n-limit.true)

pub returns-then-kept-eq0 : goal.returns-then-kept-eq0
unfolding remote_len
returns-then-kept-eq0 c = simp (le-ltb _ _ c.if-n-limit.false, eq-eqb _ _ c.if-kept-eq0.true) c.frame_len.ensures

pub returns : goal.returns
unfolding remote_len
returns c = simp (le-ltb _ _ c.if-n-limit.false, ne_eqb _ _ c.if-kept-eq0.false)
