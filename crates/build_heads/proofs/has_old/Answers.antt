use mathlib.Core.Path.{refl}
use Rattle.build_sources.proofs.Sourced.{got, at-end, at_bad}
use Rattle.build_heads.proofs.Slots.{old_none, old-some}
use Rattle.build_heads.proofs.has_old.Goals as goal

pub returns-in-Got : goal.returns-in-Got
returns-in-Got c = old-some _ _ _ _ _ (got _ _ _ _ _ refl c.next-st.ensures _ _ c.in-Got.is)

pub returns-in-End : goal.returns-in-End
returns-in-End c = old_none _ _ _ (at-end _ _ _ _ _ refl c.next-st.ensures c.in-End.is).0

pub returns-in-Bad : goal.returns-in-Bad
returns-in-Bad c = old_none _ _ _ (at_bad _ _ _ _ _ refl c.next-st.ensures c.in-Bad.is).0
