-- `build_sources::rises` meets its contract. Assumes nothing.
use mathlib.Core.Path.{refl}
use Rattle.build_sources.proofs.Sourced.{got, at-end, at_bad}
use Rattle.build_sources.proofs.Judging.{rises-end, rises-on}
use Rattle.build_sources.proofs.rises.Goals as goal

pub returns-in-Got : goal.returns-in-Got
returns-in-Got c = rises-on _ _ _ _ _ (got _ _ _ _ _ refl c.any_next-st.ensures _ _ c.in-Got.is) _ _ _ c.rises_from.ensures

pub returns-in-End : goal.returns-in-End
returns-in-End c = rises-end _ _ _ _ _ _ _ c.compare.ensures c.below_by.ensures (at-end _ _ _ _ _ refl c.any_next-st.ensures c.in-End.is).0

pub returns-in-Bad : goal.returns-in-Bad
returns-in-Bad c = rises-end _ _ _ _ _ _ _ c.compare-in-Bad.ensures c.below_by-in-Bad.ensures (at_bad _ _ _ _ _ refl c.any_next-st.ensures c.in-Bad.is).0
