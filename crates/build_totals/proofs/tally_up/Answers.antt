-- `build_totals::tally_up` meets its contract. Assumes nothing.
use mathlib.Core.Path.{refl}
use Rattle.build_sources.proofs.Sourced.{got, at-end, at_bad}
use Rattle.build_totals.proofs.Tallying.{tally_begin, tally-end, tally_asks, tally_turn}
use Rattle.build_totals.proofs.tally_up.Goals as goal

pub loop-i-init : goal.loop-i-init
loop-i-init c = tally_begin _ _ _ _ _ c.requires

pub with_one-t-requires : goal.with_one-t-requires
with_one-t-requires c = let all = tally_asks _ _ _ _ _ _ _ c.loop-i.invariant _ _ (got _ _ _ _ _ refl c.next-st.ensures _ _ c.in-Got.is) in record {
  vlen_le_max_value = all.0;
  klen_bound = all.1.0;
  bounded = all.1.1;
}

pub loop-i-smaller : goal.loop-i-smaller
loop-i-smaller c = (got _ _ _ _ _ refl c.next-st.ensures _ _ c.in-Got.is).falls

pub loop-i-preserved : goal.loop-i-preserved
loop-i-preserved c = tally_turn _ _ _ _ _ _ _ c.loop-i.invariant _ _ (got _ _ _ _ _ refl c.next-st.ensures _ _ c.in-Got.is) _ c.with_one-t.ensures

pub returns-in-End : goal.returns-in-End
returns-in-End c = let all = tally-end _ _ _ _ _ _ _ c.loop-i.invariant (at-end _ _ _ _ _ refl c.next-st.ensures c.in-End.is).0 in record {
  value = all.0;
  bounded = all.1;
}

pub returns-in-Bad : goal.returns-in-Bad
returns-in-Bad c = let all = tally-end _ _ _ _ _ _ _ c.loop-i.invariant (at_bad _ _ _ _ _ refl c.next-st.ensures c.in-Bad.is).0 in record {
  value = all.0;
  bounded = all.1;
}
