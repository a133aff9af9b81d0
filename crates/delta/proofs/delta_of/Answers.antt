-- `delta::delta_of` meets its contract. Assumes nothing.
use mathlib.Core.Path.{◌∙◌}
use borrow.Author.Tests.{eq-eqb, ne_eqb}
use Rattle.delta.specs.Read.{delta_is}
use Rattle.delta.proofs.delta_of.Goals as goal

pub returns-in_err-d : goal.returns-in_err-d
unfolding delta_is
returns-in_err-d c = c.from_residual.ensures ∙ simp (← c.delta_at.ensures, c.in_err-d.was)

pub returns-then-d-node : goal.returns-then-d-node
unfolding delta_is
returns-then-d-node c = simp (← c.delta_at.ensures, c.in_ok-d.was, eq-eqb _ _ c.if-d-node.true)

pub returns : goal.returns
unfolding delta_is
returns c = simp (← c.delta_at.ensures, c.in_ok-d.was, ne_eqb _ _ c.if-d-node.false)
