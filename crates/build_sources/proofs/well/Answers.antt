use mathlib.Core.Path.{refl, sym, ◌∙◌}
use Rattle.build_sources.proofs.Sourced.{got, at-end, at_bad}
use Rattle.build_sources.proofs.well.Goals as goal

pub loop-d-init : goal.loop-d-init
loop-d-init c = refl

pub loop-d-smaller : goal.loop-d-smaller
loop-d-smaller c = (got _ _ _ _ _ refl c.next-st.ensures _ _ c.in-Got.is).falls

pub loop-d-preserved : goal.loop-d-preserved
loop-d-preserved c = sym (got _ _ _ _ _ refl c.next-st.ensures _ _ c.in-Got.is).well ∙ c.loop-d.invariant

pub returns-in-End : goal.returns-in-End
returns-in-End c = sym (at-end _ _ _ _ _ refl c.next-st.ensures c.in-End.is).1 ∙ c.loop-d.invariant

pub returns-in-Bad : goal.returns-in-Bad
returns-in-Bad c = sym (at_bad _ _ _ _ _ refl c.next-st.ensures c.in-Bad.is).1 ∙ c.loop-d.invariant
