-- `build_sources::rises_from` meets its contract. Assumes nothing.
use mathlib.Core.Path.{refl, sym, ◌∙◌}
use native.Mathlib.Omega.{arith}
use Rattle.build_sources.proofs.Sourced.{got, at-end, at_bad}
use Rattle.build_sources.proofs.Judging.{rising_begin, risen_end, risen_stop, risen_turn, left-long}
use Rattle.build_sources.proofs.rises_from.Goals as goal

pub loop-i-init : goal.loop-i-init
loop-i-init c = rising_begin _ _ _ _

pub returns-then-not-is_above : goal.returns-then-not-is_above
returns-then-not-is_above c = risen_stop _ _ _ _ _ _ _ c.loop-i.invariant _ _ _ _ (got _ _ _ _ _ refl c.next-st.ensures _ _ c.in-Got.is) (sym c.is_above.ensures ∙ c.if-not-is_above.true)

pub overflow_add-n : goal.overflow_add-n
overflow_add-n c = omega (arith, c.well_formed, c.loop-i.invariant.left, left-long c.args.list.now c.args.footing.now c.args.from, (got _ _ _ _ _ refl c.next-st.ensures _ _ c.in-Got.is).falls)

pub loop-i-smaller : goal.loop-i-smaller
loop-i-smaller c = (got _ _ _ _ _ refl c.next-st.ensures _ _ c.in-Got.is).falls

pub loop-i-preserved : goal.loop-i-preserved
loop-i-preserved c = risen_turn _ _ _ _ _ _ _ c.loop-i.invariant _ _ (got _ _ _ _ _ refl c.next-st.ensures _ _ c.in-Got.is) (sym c.is_above.ensures ∙ c.if-not-is_above.false)

pub returns-in-End : goal.returns-in-End
returns-in-End c = risen_end _ _ _ _ _ _ _ c.loop-i.invariant _ _ _ c.ends_in.ensures (at-end _ _ _ _ _ refl c.next-st.ensures c.in-End.is).0

pub returns-in-Bad : goal.returns-in-Bad
returns-in-Bad c = risen_end _ _ _ _ _ _ _ c.loop-i.invariant _ _ _ c.ends_in-in-Bad.ensures (at_bad _ _ _ _ _ refl c.next-st.ensures c.in-Bad.is).0
