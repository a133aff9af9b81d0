-- `pages::remote_hints` meets its contract. Assumes nothing.
use native.Mathlib.Omega.{arith}
use mathlib.Core.Path.{sym, ◌∙◌}
use borrow.Author.Tests.{eq-eqb, ne_eqb}
use Rattle.frames.proofs.Frames.{open_inside}
use Rattle.pages.specs.HintsAt.{remote_hints_at}
use Rattle.pages.proofs.Given.{hints_given}
use Rattle.pages.proofs.remote_hints.Goals as goal

pub returns-in_default : goal.returns-in_default
unfolding remote_hints_at
returns-in_default c = simp (← c.open_at.ensures, c.in_default.is)

pub returns-then-b-ne-LEAF : goal.returns-then-b-ne-LEAF
unfolding remote_hints_at
returns-then-b-ne-LEAF c = simp (← c.open_at.ensures, c.in-Some.is, ne_eqb _ _ c.if-b-ne-LEAF.true)

pub hints_ok-requires : goal.hints_ok-requires
hints_ok-requires c = (open_inside c.args.s.now c.args.a c.in-Some.b (sym c.open_at.ensures ∙ c.in-Some.is)).0

pub returns-then-b : goal.returns-then-b
unfolding remote_hints_at
returns-then-b c = simp (← c.open_at.ensures, c.in-Some.is, eq-eqb _ _ c.if-b-ne-LEAF.false, ← c.hints_ok.ensures, c.if-hints_ok.true, eq-eqb _ _ c.if-b.true)

pub overflow_add-p : goal.overflow_add-p
overflow_add-p c = omega (arith, (open_inside c.args.s.now c.args.a c.in-Some.b (sym c.open_at.ensures ∙ c.in-Some.is)).0, hints_given c.args.s.now c.in-Some.b (sym c.hints_ok.ensures ∙ c.if-hints_ok.true) c.if-b.false, c.well_formed)

pub read_u32-requires : goal.read_u32-requires
read_u32-requires c = omega (arith, (open_inside c.args.s.now c.args.a c.in-Some.b (sym c.open_at.ensures ∙ c.in-Some.is)).0, hints_given c.args.s.now c.in-Some.b (sym c.hints_ok.ensures ∙ c.if-hints_ok.true) c.if-b.false, c.well_formed)

pub overflow_mul-p : goal.overflow_mul-p
overflow_mul-p c = omega (arith, (open_inside c.args.s.now c.args.a c.in-Some.b (sym c.open_at.ensures ∙ c.in-Some.is)).0, hints_given c.args.s.now c.in-Some.b (sym c.hints_ok.ensures ∙ c.if-hints_ok.true) c.if-b.false, c.well_formed, c.read_u32.ensures)

pub overflow_add-p-then-hints_ok : goal.overflow_add-p-then-hints_ok
overflow_add-p-then-hints_ok c = omega (arith, (open_inside c.args.s.now c.args.a c.in-Some.b (sym c.open_at.ensures ∙ c.in-Some.is)).0, hints_given c.args.s.now c.in-Some.b (sym c.hints_ok.ensures ∙ c.if-hints_ok.true) c.if-b.false, c.well_formed, c.read_u32.ensures)

pub overflow_add-p-then-hints_ok-2 : goal.overflow_add-p-then-hints_ok-2
overflow_add-p-then-hints_ok-2 c = omega (arith, (open_inside c.args.s.now c.args.a c.in-Some.b (sym c.open_at.ensures ∙ c.in-Some.is)).0, hints_given c.args.s.now c.in-Some.b (sym c.hints_ok.ensures ∙ c.if-hints_ok.true) c.if-b.false, c.well_formed, c.read_u32.ensures)

pub read_u32-requires-then-hints_ok : goal.read_u32-requires-then-hints_ok
read_u32-requires-then-hints_ok c = omega (arith, (open_inside c.args.s.now c.args.a c.in-Some.b (sym c.open_at.ensures ∙ c.in-Some.is)).0, hints_given c.args.s.now c.in-Some.b (sym c.hints_ok.ensures ∙ c.if-hints_ok.true) c.if-b.false, c.well_formed, c.read_u32.ensures)

pub returns-then-hints_ok : goal.returns-then-hints_ok
unfolding remote_hints_at
returns-then-hints_ok c = simp (← c.open_at.ensures, c.in-Some.is, eq-eqb _ _ c.if-b-ne-LEAF.false, ← c.hints_ok.ensures, c.if-hints_ok.true, ne_eqb _ _ c.if-b.false, c.hints_of.ensures, c.read_u32-then-hints_ok.ensures, c.read_u32.ensures)

pub returns : goal.returns
unfolding remote_hints_at
returns c = simp (← c.open_at.ensures, c.in-Some.is, eq-eqb _ _ c.if-b-ne-LEAF.false, ← c.hints_ok.ensures, c.if-hints_ok.false)
