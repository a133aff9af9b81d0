use mathlib.Core.Path.{refl, sym, ◌∙◌}
use Rattle.build_sources.proofs.Sourced.{got, at-end, at_bad}
use Rattle.build_sources.proofs.Judging.{prefixed-end, prefixed_not, prefixed-on}
use Rattle.build_sources.proofs.begins.Goals as goal

pub loop-i-init : goal.loop-i-init
loop-i-init c = refl

pub returns-then-not-key_begins : goal.returns-then-not-key_begins
returns-then-not-key_begins c = prefixed_not _ _ _ _ _ (got _ _ _ _ _ refl c.next-st.ensures _ _ c.in-Got.is) _ (sym c.key_begins.ensures ∙ c.if-not-key_begins.true) ∙ c.loop-i.invariant

pub loop-i-smaller : goal.loop-i-smaller
loop-i-smaller c = (got _ _ _ _ _ refl c.next-st.ensures _ _ c.in-Got.is).falls

pub loop-i-preserved : goal.loop-i-preserved
loop-i-preserved c = prefixed-on _ _ _ _ _ (got _ _ _ _ _ refl c.next-st.ensures _ _ c.in-Got.is) _ (sym c.key_begins.ensures ∙ c.if-not-key_begins.false) ∙ c.loop-i.invariant

pub returns-in-End : goal.returns-in-End
returns-in-End c = prefixed-end _ _ _ _ (at-end _ _ _ _ _ refl c.next-st.ensures c.in-End.is).0 ∙ c.loop-i.invariant

pub returns-in-Bad : goal.returns-in-Bad
returns-in-Bad c = prefixed-end _ _ _ _ (at_bad _ _ _ _ _ refl c.next-st.ensures c.in-Bad.is).0 ∙ c.loop-i.invariant
