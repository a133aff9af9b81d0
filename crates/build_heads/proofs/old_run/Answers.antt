use mathlib.Core.Path.{refl}
use native.Mathlib.Omega.{arith}
use borrow.Author.Tests.{not-true, not-false}
use Rattle.build_sources.proofs.Sourced.{got, at-end, at_bad}
use Rattle.build_sources.proofs.Judging.{left-long}
use Rattle.build_heads.proofs.Runs.{run_end, run_stop, run_turn}
use Rattle.build_heads.proofs.old_run.Goals as goal

pub loop-i-init : goal.loop-i-init
loop-i-init c = record { goes = omega arith; left = omega arith }

pub returns-then-not-i : goal.returns-then-not-i
returns-then-not-i c = run_stop _ _ _ _ _ c.loop-i.invariant _ _ (got _ _ _ _ _ refl c.next-st.ensures _ _ c.in-Got.is) (not-true _ c.if-not-i.true)

pub overflow_add-n : goal.overflow_add-n
overflow_add-n c = omega (arith, c.well_formed.0, c.well_formed.1.0, c.loop-i.invariant.left, left-long c.args.list.now c.args.footing.now c.args.from, (got _ _ _ _ _ refl c.next-st.ensures _ _ c.in-Got.is).falls)

pub loop-i-smaller : goal.loop-i-smaller
loop-i-smaller c = (got _ _ _ _ _ refl c.next-st.ensures _ _ c.in-Got.is).falls

pub loop-i-preserved : goal.loop-i-preserved
loop-i-preserved c = run_turn _ _ _ _ _ c.loop-i.invariant _ _ (got _ _ _ _ _ refl c.next-st.ensures _ _ c.in-Got.is) (not-false _ c.if-not-i.false)

pub returns-in-End : goal.returns-in-End
returns-in-End c = run_end _ _ _ _ _ c.loop-i.invariant (at-end _ _ _ _ _ refl c.next-st.ensures c.in-End.is).0

pub returns-in-Bad : goal.returns-in-Bad
returns-in-Bad c = run_end _ _ _ _ _ c.loop-i.invariant (at_bad _ _ _ _ _ refl c.next-st.ensures c.in-Bad.is).0
