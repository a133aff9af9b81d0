use native.Mathlib.Omega.{arith}
use mathlib.Core.Path.{refl}
use Rattle.build_sources.proofs.Sourced.{got, at-end, at_bad}
use Rattle.build_index.proofs.Passes.{sum_begin, sum-end, sum_asks, sum-small, sum_turn}
use Rattle.build_index.proofs.index_sums.Goals as goal

pub loop-i-init : goal.loop-i-init
loop-i-init c = sum_begin _ _ _ _ c.requires.long c.requires.from_len_bound

pub overflow_add-i : goal.overflow_add-i
overflow_add-i c = let z = (got _ _ _ _ _ refl c.next-st.ensures _ _ c.in-Got.is).placed.ksmall in omega (arith, z)

pub key_len-requires : goal.key_len-requires
key_len-requires c = sum_asks _ _ _ _ _ _ c.loop-i.invariant _ _ (got _ _ _ _ _ refl c.next-st.ensures _ _ c.in-Got.is)

pub overflow_add-n : goal.overflow_add-n
overflow_add-n c = let z = sum-small _ _ _ _ _ _ c.loop-i.invariant _ _ (got _ _ _ _ _ refl c.next-st.ensures _ _ c.in-Got.is) _ c.key_len.ensures in omega (arith, z)

pub overflow_add-n-in-Got : goal.overflow_add-n-in-Got
overflow_add-n-in-Got c = let z = sum-small _ _ _ _ _ _ c.loop-i.invariant _ _ (got _ _ _ _ _ refl c.next-st.ensures _ _ c.in-Got.is) _ c.key_len.ensures in omega (arith, z)

pub loop-i-smaller : goal.loop-i-smaller
loop-i-smaller c = (got _ _ _ _ _ refl c.next-st.ensures _ _ c.in-Got.is).falls

pub loop-i-preserved : goal.loop-i-preserved
loop-i-preserved c = sum_turn _ _ _ _ _ _ c.loop-i.invariant _ _ (got _ _ _ _ _ refl c.next-st.ensures _ _ c.in-Got.is) _ c.key_len.ensures

pub returns-in-End : goal.returns-in-End
returns-in-End c = let all = sum-end _ _ _ _ _ _ c.loop-i.invariant (at-end _ _ _ _ _ refl c.next-st.ensures c.in-End.is).0 in record {
  value = all.0;
  upper_bound = all.1;
}

pub returns-in-Bad : goal.returns-in-Bad
returns-in-Bad c = let all = sum-end _ _ _ _ _ _ c.loop-i.invariant (at_bad _ _ _ _ _ refl c.next-st.ensures c.in-Bad.is).0 in record {
  value = all.0;
  upper_bound = all.1;
}
