-- `pages::bounds_at` meets its contract. Assumes nothing.
use native.Mathlib.Omega.{arith}
use mathlib.Core.Path.{sym, ◌∙◌}
use borrow.Author.Tests.{eq-eqb, ne_eqb}
use Rattle.frames.proofs.Frames.{open_inside}
use Rattle.pages.specs.Boundaries.{bounds_of, bounds_at}
use Rattle.pages.proofs.bounds_at.Goals as goal

pub returns-in_default : goal.returns-in_default
unfolding bounds_at
returns-in_default c = simp (← c.open_at.ensures, c.in_default.is)

pub returns-then-b-eq-HISTORY : goal.returns-then-b-eq-HISTORY
unfolding bounds_at
returns-then-b-eq-HISTORY c = simp (← c.open_at.ensures, c.in-Some.is, eq-eqb _ _ c.if-b-eq-HISTORY.true)

pub overflow_add-lo_at : goal.overflow_add-lo_at
overflow_add-lo_at c = omega (arith, (open_inside c.args.s.now c.args.a c.in-Some.b (sym c.open_at.ensures ∙ c.in-Some.is)).0, c.well_formed)

pub overflow_mul-lo_at : goal.overflow_mul-lo_at
overflow_mul-lo_at c = omega (arith, (open_inside c.args.s.now c.args.a c.in-Some.b (sym c.open_at.ensures ∙ c.in-Some.is)).0, c.well_formed)

pub overflow_add-lo_at-2 : goal.overflow_add-lo_at-2
overflow_add-lo_at-2 c = omega (arith, (open_inside c.args.s.now c.args.a c.in-Some.b (sym c.open_at.ensures ∙ c.in-Some.is)).0, c.well_formed)

pub overflow_add-result : goal.overflow_add-result
overflow_add-result c = omega (arith, (open_inside c.args.s.now c.args.a c.in-Some.b (sym c.open_at.ensures ∙ c.in-Some.is)).0, c.well_formed)

pub returns : goal.returns
unfolding bounds_at bounds_of
returns c = simp (← c.open_at.ensures, c.in-Some.is, ne_eqb _ _ c.if-b-eq-HISTORY.false)
