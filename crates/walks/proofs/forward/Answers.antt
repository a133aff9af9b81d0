-- `walks::forward` meets its contract. Assumes nothing.
use native.Mathlib.Omega.{arith}
use mathlib.Core.Path.{sym, ◌∙◌}
use borrow.Author.Tests.{eq-eqb, ne_eqb}
use Rattle.frames.proofs.Frames.{open_inside}
use Rattle.walks.specs.Walk.{forward_at}
use Rattle.walks.proofs.Lying.{front-few}
use Rattle.walks.proofs.forward.Goals as goal

pub returns-in_default : goal.returns-in_default
unfolding forward_at
returns-in_default c = simp (← c.open_at.ensures, c.in_default.is)

pub returns-then-b-eq-HISTORY : goal.returns-then-b-eq-HISTORY
unfolding forward_at
returns-then-b-eq-HISTORY c = simp (← c.open_at.ensures, c.in-Some.is, eq-eqb _ _ c.if-b-eq-HISTORY.true)

pub walk_over-requires : goal.walk_over-requires
walk_over-requires c = let i = (open_inside c.args.s.now c.args.a c.in-Some.b (sym c.open_at.ensures ∙ c.in-Some.is)).0 in
    omega (arith, front-few c.args.s.now c.in-Some.b i, c.well_formed)

pub returns : goal.returns
unfolding forward_at
returns c = simp (← c.open_at.ensures, c.in-Some.is, ne_eqb _ _ c.if-b-eq-HISTORY.false, ← c.up.ensures, ← c.up_way.ensures, c.walk_over.ensures)
