-- `walks::backward` meets its contract. Assumes nothing.
use native.Mathlib.Omega.{arith}
use mathlib.Core.Path.{sym, ◌∙◌}
use borrow.Author.Tests.{eq-eqb, ne_eqb}
use mir.Syntax.{w64}
use mir.ValLaws.{to_z-of_z}
use Rattle.frames.proofs.Frames.{open_inside}
use Rattle.walks.specs.Walk.{backward_at}
use Rattle.walks.proofs.Lying.{front-few}
use Rattle.walks.proofs.backward.Goals as goal

pub returns-in_default : goal.returns-in_default
unfolding backward_at
returns-in_default c = simp (← c.open_at.ensures, c.in_default.is)

pub returns-then-b-ne-LEAF : goal.returns-then-b-ne-LEAF
unfolding backward_at
returns-then-b-ne-LEAF c = simp (← c.open_at.ensures, c.in-Some.is, ne_eqb _ _ c.if-b-ne-LEAF.true)

pub walk_over-requires : goal.walk_over-requires
walk_over-requires c = let i = (open_inside c.args.s.now c.args.a c.in-Some.b (sym c.open_at.ensures ∙ c.in-Some.is)).0 in
    omega (arith, front-few c.args.s.now c.in-Some.b i, c.well_formed)

pub returns : goal.returns
unfolding backward_at
returns c = simp (← c.open_at.ensures, c.in-Some.is, eq-eqb _ _ c.if-b-ne-LEAF.false, c.down.ensures, to_z-of_z w64 c.args.start c.ranges.start, to_z-of_z w64 c.args.end c.ranges.end, c.walk_over.ensures)
