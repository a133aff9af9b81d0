use native.Mathlib.Omega.{arith}
use mathlib.Core.Path.{sym, ap}
use lib.ListN.{length, take}
use lib.Seq.{length-take-le}
use Rattle.spans.proofs.Writing.{begin}
use Rattle.build_sources.proofs.Sourced.{got, at-end, at_bad}
use Rattle.build_index.proofs.Passes.{recs-end, rec_asks, recs_turn}
use Rattle.build_index.proofs.index_recs.Goals as goal

pub loop-i-init : goal.loop-i-init
loop-i-init c = record { writing = begin _ _ _ _ c.requires.footing_le_at c.requires.from_in_bounds; long = c.requires.long }

pub slice_bounds-next-end : goal.slice_bounds-next-end
slice_bounds-next-end c = let v = c.loop-i.invariant.writing in omega (arith, v.over, v.room)

pub slice_bounds-next-end-in-loop-i : goal.slice_bounds-next-end-in-loop-i
slice_bounds-next-end-in-loop-i c = let v = c.loop-i.invariant.writing in sym (length-take-le _ _ (omega (arith, v.over, v.room)))

pub index_rec-to-requires : goal.index_rec-to-requires
index_rec-to-requires c = let all = rec_asks _ _ _ _ _ _ _ _ c.loop-i.invariant _ _ (got _ _ _ _ _ c.loop-i.invariant.writing.same c.next-st.ensures _ _ c.in-Got.is) in record {
  footing_le_at = all.0;
  placed = all.1.0;
  p_bound = all.1.1.0;
  i_in_bounds = all.1.1.1;
}

pub loop-i-smaller : goal.loop-i-smaller
loop-i-smaller c = (got _ _ _ _ _ c.loop-i.invariant.writing.same c.next-st.ensures _ _ c.in-Got.is).falls

pub loop-i-preserved : goal.loop-i-preserved
loop-i-preserved c = recs_turn _ _ _ _ _ _ _ _ c.loop-i.invariant _ _ (got _ _ _ _ _ c.loop-i.invariant.writing.same c.next-st.ensures _ _ c.in-Got.is) _ _ c.index_rec-to.ensures.value c.index_rec-to.ensures.a_after

pub shape_of-a-in-End : goal.shape_of-a-in-End
shape_of-a-in-End c = c.loop-i.invariant.writing.long

pub returns-in-End : goal.returns-in-End
returns-in-End c = recs-end _ _ _ _ _ _ _ _ c.loop-i.invariant (at-end _ _ _ _ _ c.loop-i.invariant.writing.same c.next-st.ensures c.in-End.is).0

pub shape_of-a-in-Bad : goal.shape_of-a-in-Bad
shape_of-a-in-Bad c = c.loop-i.invariant.writing.long

pub returns-in-Bad : goal.returns-in-Bad
returns-in-Bad c = recs-end _ _ _ _ _ _ _ _ c.loop-i.invariant (at_bad _ _ _ _ _ c.loop-i.invariant.writing.same c.next-st.ensures c.in-Bad.is).0
