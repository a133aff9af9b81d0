use borrow.Author.Tests.{eq-eqb, ne_eqb}
use Rattle.values.specs.Vals.{flag_of}
use Rattle.values.proofs.flag_of.Goals as goal

pub returns-then-remote : goal.returns-then-remote
unfolding flag_of
returns-then-remote c = simp (eq-eqb _ _ c.if-count-eq0.true, c.if-remote.true)

pub returns-else-remote : goal.returns-else-remote
unfolding flag_of
returns-else-remote c = simp (eq-eqb _ _ c.if-count-eq0.true, c.if-remote.false)

pub returns-then-remote-2 : goal.returns-then-remote-2
unfolding flag_of
returns-then-remote-2 c = simp (ne_eqb _ _ c.if-count-eq0.false, c.if-remote-2.true)

pub returns-else-remote-2 : goal.returns-else-remote-2
unfolding flag_of
returns-else-remote-2 c = simp (ne_eqb _ _ c.if-count-eq0.false, c.if-remote-2.false)
