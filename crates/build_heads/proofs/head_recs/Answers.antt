use native.Mathlib.Omega.{arith}
use mathlib.Core.Path.{sym, ap}
use lib.ListN.{length, take}
use lib.Seq.{length-take-le}
use Rattle.spans.specs.Span.{put}
use Rattle.build_sources.proofs.Sourced.{got, at-end, at_bad}
use Rattle.build_heads.proofs.HeadPass.{recs_begin, recs-end, settle_asks, beyond_fits, k_few, q_slots, q_left, head_asks, recs_turn}
use Rattle.build_heads.proofs.head_recs.Goals as goal

pub loop-i-init : goal.loop-i-init
loop-i-init c = recs_begin _ _ _ _ _ _ _ _ _ c.requires.footing_le_at c.requires.long c.requires.from_len_bound c.requires.from_in_bounds c.requires.from_in_bounds_2 c.requires.from_in_bounds_3

pub slice_bounds-next-end : goal.slice_bounds-next-end
slice_bounds-next-end c = let v = c.loop-i.invariant.writing in omega (arith, v.over, v.room)

pub slice_bounds-next-end-in-loop-i : goal.slice_bounds-next-end-in-loop-i
slice_bounds-next-end-in-loop-i c = let v = c.loop-i.invariant.writing in sym (length-take-le _ _ (omega (arith, v.over, v.room)))

pub slice_bounds-run_of-end : goal.slice_bounds-run_of-end
slice_bounds-run_of-end c = let v = c.loop-i.invariant.writing in omega (arith, v.over, v.room)

pub slice_bounds-run_of-end-in-Got : goal.slice_bounds-run_of-end-in-Got
slice_bounds-run_of-end-in-Got c = let v = c.loop-i.invariant.writing in sym (length-take-le _ _ (omega (arith, v.over, v.room)))

pub slice_bounds-settle-end : goal.slice_bounds-settle-end
slice_bounds-settle-end c = let v = c.loop-i.invariant.writing in omega (arith, v.over, v.room)

pub slice_bounds-settle-end-in-Got : goal.slice_bounds-settle-end-in-Got
slice_bounds-settle-end-in-Got c = let v = c.loop-i.invariant.writing in sym (length-take-le _ _ (omega (arith, v.over, v.room)))

pub settle-q-requires : goal.settle-q-requires
settle-q-requires c = let all = settle_asks _ _ _ _ _ _ _ _ _ _ _ _ c.loop-i.invariant (omega (arith, c.well_formed.0)) c.requires.sane in record {
  sane = all.0;
  c_bound = all.1;
}

pub overflow_cast-h : goal.overflow_cast-h
overflow_cast-h c = let z = q_slots _ _ _ _ _ _ _ _ _ _ _ _ c.loop-i.invariant _ _ (got _ _ _ _ _ c.loop-i.invariant.writing.same c.next-st.ensures _ _ c.in-Got.is) _ c.run_of-k.ensures _ c.names-named.ensures _ c.settle-q.ensures in omega (arith, z)

pub overflow_cast-h-in-Got : goal.overflow_cast-h-in-Got
overflow_cast-h-in-Got c = let z = k_few _ _ _ _ _ _ _ _ _ _ _ _ c.loop-i.invariant _ _ (got _ _ _ _ _ c.loop-i.invariant.writing.same c.next-st.ensures _ _ c.in-Got.is) _ c.run_of-k.ensures in omega (arith, z)

pub remote_step-requires : goal.remote_step-requires
remote_step-requires c = (got _ _ _ _ _ c.loop-i.invariant.writing.same c.next-st.ensures _ _ c.in-Got.is).placed.vsmall

pub overflow_add-beyond : goal.overflow_add-beyond
overflow_add-beyond c = let z = beyond_fits _ _ _ _ _ _ _ _ _ _ _ _ c.loop-i.invariant _ _ (got _ _ _ _ _ c.loop-i.invariant.writing.same c.next-st.ensures _ _ c.in-Got.is) in omega (arith, z, c.remote_step.ensures, c.well_formed.0)

pub put_head-to-requires : goal.put_head-to-requires
put_head-to-requires c = let all = head_asks _ _ _ _ _ _ _ _ _ _ _ _ c.loop-i.invariant _ _ (got _ _ _ _ _ c.loop-i.invariant.writing.same c.next-st.ensures _ _ c.in-Got.is) _ c.run_of-k.ensures _ c.names-named.ensures _ c.settle-q.ensures in record {
  footing_le_at = all.0;
  placed = all.1.0;
  p_bound = all.1.1.0;
  i_in_bounds = all.1.1.1;
}

pub onward-loc-requires : goal.onward-loc-requires
onward-loc-requires c = record {
  le_left = q_left _ _ _ _ _ _ _ _ _ _ _ _ c.loop-i.invariant _ _ (got _ _ _ _ _ c.loop-i.invariant.writing.same c.next-st.ensures _ _ c.in-Got.is) _ c.run_of-k.ensures _ c.names-named.ensures _ c.settle-q.ensures;
  left_bound = q_slots _ _ _ _ _ _ _ _ _ _ _ _ c.loop-i.invariant _ _ (got _ _ _ _ _ c.loop-i.invariant.writing.same c.next-st.ensures _ _ c.in-Got.is) _ c.run_of-k.ensures _ c.names-named.ensures _ c.settle-q.ensures;
}

pub loop-i-smaller : goal.loop-i-smaller
loop-i-smaller c = (got _ _ _ _ _ c.loop-i.invariant.writing.same c.next-st.ensures _ _ c.in-Got.is).falls

pub loop-i-preserved : goal.loop-i-preserved
loop-i-preserved c = recs_turn _ _ _ _ _ _ _ _ _ _ _ _ c.loop-i.invariant _ _ (got _ _ _ _ _ c.loop-i.invariant.writing.same c.next-st.ensures _ _ c.in-Got.is) _ c.run_of-k.ensures _ c.names-named.ensures _ c.settle-q.ensures _ c.remote_step.ensures _ c.onward-loc.ensures _ _ c.put_head-to.ensures.value c.put_head-to.ensures.a_after

pub shape_of-a-in-End : goal.shape_of-a-in-End
shape_of-a-in-End c = c.loop-i.invariant.writing.long

pub returns-in-End : goal.returns-in-End
returns-in-End c = let all = recs-end _ _ _ _ _ _ _ _ _ _ _ _ c.loop-i.invariant (at-end _ _ _ _ _ c.loop-i.invariant.writing.same c.next-st.ensures c.in-End.is).0 in record {
  value = all.0;
  a_after = all.1;
}

pub shape_of-a-in-Bad : goal.shape_of-a-in-Bad
shape_of-a-in-Bad c = c.loop-i.invariant.writing.long

pub returns-in-Bad : goal.returns-in-Bad
returns-in-Bad c = let all = recs-end _ _ _ _ _ _ _ _ _ _ _ _ c.loop-i.invariant (at_bad _ _ _ _ _ c.loop-i.invariant.writing.same c.next-st.ensures c.in-Bad.is).0 in record {
  value = all.0;
  a_after = all.1;
}
