use mathlib.Core.Path.{refl, sym, ◌∙◌}
use Rattle.build_sources.proofs.Sourced.{got, at-end, at_bad, chosen, passed, none}
use Rattle.build_sources.proofs.next_of.Goals as goal

pub loop-i-init : goal.loop-i-init
loop-i-init c = refl

pub returns-then-is_wanted : goal.returns-then-is_wanted
returns-then-is_wanted c = chosen _ _ _ _ _ _ _ c.loop-i.invariant (got _ _ _ _ _ refl c.next-st.ensures _ _ c.in-Got.is) (sym c.is_wanted.ensures ∙ c.if-is_wanted.true)

pub loop-i-smaller : goal.loop-i-smaller
loop-i-smaller c = (got _ _ _ _ _ refl c.next-st.ensures _ _ c.in-Got.is).falls

pub loop-i-preserved : goal.loop-i-preserved
loop-i-preserved c = passed _ _ _ _ _ _ _ c.loop-i.invariant (got _ _ _ _ _ refl c.next-st.ensures _ _ c.in-Got.is) (sym c.is_wanted.ensures ∙ c.if-is_wanted.false)

pub returns-in-End : goal.returns-in-End
returns-in-End c = none _ _ _ _ _ c.loop-i.invariant (at-end _ _ _ _ _ refl c.next-st.ensures c.in-End.is).0

pub returns-in-Bad : goal.returns-in-Bad
returns-in-Bad c = none _ _ _ _ _ c.loop-i.invariant (at_bad _ _ _ _ _ refl c.next-st.ensures c.in-Bad.is).0
