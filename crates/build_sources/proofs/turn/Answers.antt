use borrow.Author.Tests.{eq-eqb, ne_eqb}
use Rattle.build_sources.specs.Pages.{turned}
use Rattle.build_sources.proofs.turn.Goals as goal

pub returns-then-c-eq0 : goal.returns-then-c-eq0
unfolding turned
returns-then-c-eq0 c = simp (eq-eqb _ _ c.if-c-eq0.true)

pub returns-in_default : goal.returns-in_default
unfolding turned
returns-in_default c = simp (ne_eqb _ _ c.if-c-eq0.false, ← c.page_first.ensures, c.in_default.is)

pub returns : goal.returns
unfolding turned
returns c = simp (ne_eqb _ _ c.if-c-eq0.false, ← c.page_first.ensures, c.in-Some.is, c.walk_next.ensures)
