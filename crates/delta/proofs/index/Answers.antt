-- `delta::index` meets its contract. Assumes nothing.
use native.Mathlib.Omega.{arith}
use mathlib.Core.Path.{sym, ◌∙◌}
use borrow.Author.Tests.{eq-eqb, ne_eqb}
use Rattle.delta.specs.Read.{child_at}
use Rattle.delta.proofs.Ends.{key-ends, val-ends}
use Rattle.delta.proofs.index.Goals as goal

pub returns-in_default : goal.returns-in_default
unfolding child_at
returns-in_default c = simp (← c.delta_of.ensures, c.in_default.is)

pub overflow_add-d : goal.overflow_add-d
overflow_add-d c = omega (arith, key-ends c.args.s.now c.args.a 2 c.in-Some.d (sym c.delta_of.ensures ∙ c.in-Some.is), c.well_formed)

pub read_u64-requires : goal.read_u64-requires
read_u64-requires c = omega (arith, val-ends c.args.s.now c.args.a 2 c.in-Some.d (sym c.delta_of.ensures ∙ c.in-Some.is), c.if-d.true)

pub returns-then-d : goal.returns-then-d
unfolding child_at
returns-then-d c = simp (← c.delta_of.ensures, c.in-Some.is, eq-eqb _ _ c.if-d.true, c.read_u64.ensures)

pub returns : goal.returns
unfolding child_at
returns c = simp (← c.delta_of.ensures, c.in-Some.is, ne_eqb _ _ c.if-d.false)
