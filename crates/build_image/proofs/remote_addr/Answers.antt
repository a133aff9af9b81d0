use borrow.Author.Tests.{eq-eqb, ne_eqb}
use Rattle.build_image.specs.Image.{remote_addr}
use Rattle.build_image.proofs.remote_addr.Goals as goal

pub returns-then-kept-eq0 : goal.returns-then-kept-eq0
unfolding remote_addr
returns-then-kept-eq0 c = simp (eq-eqb _ _ c.if-kept-eq0.true)

pub returns : goal.returns
unfolding remote_addr
returns c = simp (ne_eqb _ _ c.if-kept-eq0.false)
