-- `frames::delta_at` meets its contract. Assumes nothing.
use native.Mathlib.Omega.{arith}
use mathlib.Core.Path.{sym, ◌∙◌}
use borrow.Author.Tests.{le-leb, lt-leb, eq-eqb, ne_eqb}
use Rattle.frames.specs.Layout.{delta_at}
use Rattle.frames.proofs.Frames.{framed}
use Rattle.frames.proofs.delta_at.Goals as goal

pub returns-in_err-h : goal.returns-in_err-h
unfolding delta_at
returns-in_err-h c = c.from_residual.ensures ∙ simp (← c.at.ensures, c.in_err-h.was)

pub returns-then-h-ne-DELTA : goal.returns-then-h-ne-DELTA
unfolding delta_at
returns-then-h-ne-DELTA c = simp (← c.at.ensures, c.in_ok-h.was, ne_eqb _ _ c.if-h-ne-DELTA.true)

pub returns-then-h-lt-LENS : goal.returns-then-h-lt-LENS
unfolding delta_at
returns-then-h-lt-LENS c = simp (← c.at.ensures, c.in_ok-h.was, eq-eqb _ _ c.if-h-ne-DELTA.false, lt-leb _ _ c.if-h-lt-LENS.true)

pub overflow_add-p : goal.overflow_add-p
overflow_add-p c = omega (arith, c.well_formed, (framed c.args.s.now c.args.a c.in_ok-h.h (sym c.at.ensures ∙ c.in_ok-h.was)).room)

pub read_u32-k-requires : goal.read_u32-k-requires
read_u32-k-requires c = omega (arith, c.well_formed, (framed c.args.s.now c.args.a c.in_ok-h.h (sym c.at.ensures ∙ c.in_ok-h.was)).room)

pub overflow_add-p-2 : goal.overflow_add-p-2
overflow_add-p-2 c = omega (arith, c.well_formed, (framed c.args.s.now c.args.a c.in_ok-h.h (sym c.at.ensures ∙ c.in_ok-h.was)).room)

pub read_u32-v-requires : goal.read_u32-v-requires
read_u32-v-requires c = omega (arith, c.well_formed, (framed c.args.s.now c.args.a c.in_ok-h.h (sym c.at.ensures ∙ c.in_ok-h.was)).room)

pub returns-then-h-k : goal.returns-then-h-k
unfolding delta_at
returns-then-h-k c = simp (← c.at.ensures, c.in_ok-h.was, eq-eqb _ _ c.if-h-ne-DELTA.false, le-leb _ _ c.if-h-lt-LENS.false, ← c.read_u32-k.ensures, ← c.read_u32-v.ensures, ne_eqb _ _ c.if-h-k.true)

pub overflow_add-result : goal.overflow_add-result
overflow_add-result c = omega (arith, c.well_formed, (framed c.args.s.now c.args.a c.in_ok-h.h (sym c.at.ensures ∙ c.in_ok-h.was)).room)

pub overflow_add-result-2 : goal.overflow_add-result-2
overflow_add-result-2 c = omega (arith, c.well_formed, (framed c.args.s.now c.args.a c.in_ok-h.h (sym c.at.ensures ∙ c.in_ok-h.was)).room)

pub overflow_add-result-3 : goal.overflow_add-result-3
overflow_add-result-3 c = omega (arith, c.well_formed, (framed c.args.s.now c.args.a c.in_ok-h.h (sym c.at.ensures ∙ c.in_ok-h.was)).room)

pub overflow_add-result-4 : goal.overflow_add-result-4
overflow_add-result-4 c = omega (arith, c.well_formed, (framed c.args.s.now c.args.a c.in_ok-h.h (sym c.at.ensures ∙ c.in_ok-h.was)).room)

pub overflow_add-result-5 : goal.overflow_add-result-5
overflow_add-result-5 c = omega (arith, c.well_formed, (framed c.args.s.now c.args.a c.in_ok-h.h (sym c.at.ensures ∙ c.in_ok-h.was)).room)

pub overflow_add-result-6 : goal.overflow_add-result-6
overflow_add-result-6 c = omega (arith, c.well_formed, (framed c.args.s.now c.args.a c.in_ok-h.h (sym c.at.ensures ∙ c.in_ok-h.was)).room)

pub returns : goal.returns
unfolding delta_at
returns c = simp (← c.at.ensures, c.in_ok-h.was, eq-eqb _ _ c.if-h-ne-DELTA.false, le-leb _ _ c.if-h-lt-LENS.false, ← c.read_u32-k.ensures, ← c.read_u32-v.ensures, eq-eqb _ _ c.if-h-k.false)
