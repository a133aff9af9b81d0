-- `frames::remote_at` meets its contract. Assumes nothing.
use native.Mathlib.Omega.{arith}
use mathlib.Core.Path.{sym, ◌∙◌}
use borrow.Author.Tests.{eq-eqb, ne_eqb}
use Rattle.frames.specs.Layout.{remote_at}
use Rattle.frames.proofs.Frames.{framed}
use Rattle.frames.proofs.remote_at.Goals as goal

pub returns-in_err-h : goal.returns-in_err-h
unfolding remote_at
returns-in_err-h c = c.from_residual.ensures ∙ simp (← c.at.ensures, c.in_err-h.was)

pub returns-then-h-ne-REMOTE : goal.returns-then-h-ne-REMOTE
unfolding remote_at
returns-then-h-ne-REMOTE c = simp (← c.at.ensures, c.in_ok-h.was, ne_eqb _ _ c.if-h-ne-REMOTE.true)

pub returns-then-h-n : goal.returns-then-h-n
unfolding remote_at
returns-then-h-n c = simp (← c.at.ensures, c.in_ok-h.was, eq-eqb _ _ c.if-h-ne-REMOTE.false, ne_eqb _ _ c.if-h-n.true)

pub overflow_add-p : goal.overflow_add-p
overflow_add-p c = omega (arith, c.well_formed, (framed c.args.s.now c.args.a c.in_ok-h.h (sym c.at.ensures ∙ c.in_ok-h.was)).room)

pub read_u64-requires : goal.read_u64-requires
read_u64-requires c = omega (arith, c.well_formed, (framed c.args.s.now c.args.a c.in_ok-h.h (sym c.at.ensures ∙ c.in_ok-h.was)).room)

pub returns-then-read_u64-n : goal.returns-then-read_u64-n
unfolding remote_at
returns-then-read_u64-n c = simp (← c.at.ensures, c.in_ok-h.was, eq-eqb _ _ c.if-h-ne-REMOTE.false, eq-eqb _ _ c.if-h-n.false, ← c.read_u64.ensures, ne_eqb _ _ c.if-read_u64-n.true)

pub overflow_add-result : goal.overflow_add-result
overflow_add-result c = omega (arith, c.well_formed, (framed c.args.s.now c.args.a c.in_ok-h.h (sym c.at.ensures ∙ c.in_ok-h.was)).room)

pub returns : goal.returns
unfolding remote_at
returns c = simp (← c.at.ensures, c.in_ok-h.was, eq-eqb _ _ c.if-h-ne-REMOTE.false, eq-eqb _ _ c.if-h-n.false, ← c.read_u64.ensures, eq-eqb _ _ c.if-read_u64-n.false)
