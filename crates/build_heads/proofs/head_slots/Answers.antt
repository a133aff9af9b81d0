use native.Mathlib.Omega.{arith}
use mathlib.Core.Path.{sym, ap}
use lib.ListN.{length, take}
use lib.Seq.{length-take-le}
use Rattle.spans.specs.Span.{put}
use Rattle.spans.proofs.Writing.{begin}
use Rattle.build_sources.proofs.Sourced.{got, at-end, at_bad}
use Rattle.build_heads.proofs.SlotPass.{slots_end, step_asks, slot_asks, off_small, slots_turn}
use Rattle.build_heads.proofs.head_slots.Goals as goal

pub loop-i-init : goal.loop-i-init
loop-i-init c = record { writing = begin _ _ _ _ c.requires.footing_le_at c.requires.from_in_bounds; long = c.requires.long; small = c.requires.from_bound }

pub slice_bounds-next-end : goal.slice_bounds-next-end
slice_bounds-next-end c = let v = c.loop-i.invariant.writing in omega (arith, v.over, v.room)

pub slice_bounds-next-end-in-loop-i : goal.slice_bounds-next-end-in-loop-i
slice_bounds-next-end-in-loop-i c = let v = c.loop-i.invariant.writing in sym (length-take-le _ _ (omega (arith, v.over, v.room)))

pub slice_bounds-slot_step-end : goal.slice_bounds-slot_step-end
slice_bounds-slot_step-end c = let v = c.loop-i.invariant.writing in omega (arith, v.over, v.room)

pub slice_bounds-slot_step-end-in-Got : goal.slice_bounds-slot_step-end-in-Got
slice_bounds-slot_step-end-in-Got c = let v = c.loop-i.invariant.writing in sym (length-take-le _ _ (omega (arith, v.over, v.room)))

pub slot_step-n-requires : goal.slot_step-n-requires
slot_step-n-requires c = let all = step_asks _ _ _ _ _ _ _ _ _ _ c.loop-i.invariant _ _ (got _ _ _ _ _ c.loop-i.invariant.writing.same c.next-st.ensures _ _ c.in-Got.is) in record {
  placed = all.0;
  p_bound = all.1;
}

pub put_slot-to-requires : goal.put_slot-to-requires
put_slot-to-requires c = let all = slot_asks _ _ _ _ _ _ _ _ _ _ c.loop-i.invariant _ _ (got _ _ _ _ _ c.loop-i.invariant.writing.same c.next-st.ensures _ _ c.in-Got.is) in record {
  off_in_bounds = all.0;
  off_bound = all.1;
}

pub overflow_add-off : goal.overflow_add-off
overflow_add-off c = let z = off_small _ _ _ _ _ _ _ _ _ _ c.loop-i.invariant _ _ (got _ _ _ _ _ c.loop-i.invariant.writing.same c.next-st.ensures _ _ c.in-Got.is) _ c.slot_step-n.ensures in omega (arith, z)

pub loop-i-smaller : goal.loop-i-smaller
loop-i-smaller c = (got _ _ _ _ _ c.loop-i.invariant.writing.same c.next-st.ensures _ _ c.in-Got.is).falls

pub loop-i-preserved : goal.loop-i-preserved
loop-i-preserved c = slots_turn _ _ _ _ _ _ _ _ _ _ c.loop-i.invariant _ _ (got _ _ _ _ _ c.loop-i.invariant.writing.same c.next-st.ensures _ _ c.in-Got.is) _ c.slot_step-n.ensures _ _ c.put_slot-to.ensures.value c.put_slot-to.ensures.a_after

pub shape_of-a-in-End : goal.shape_of-a-in-End
shape_of-a-in-End c = c.loop-i.invariant.writing.long

pub returns-in-End : goal.returns-in-End
returns-in-End c = slots_end _ _ _ _ _ _ _ _ _ _ c.loop-i.invariant (at-end _ _ _ _ _ c.loop-i.invariant.writing.same c.next-st.ensures c.in-End.is).0

pub shape_of-a-in-Bad : goal.shape_of-a-in-Bad
shape_of-a-in-Bad c = c.loop-i.invariant.writing.long

pub returns-in-Bad : goal.returns-in-Bad
returns-in-Bad c = slots_end _ _ _ _ _ _ _ _ _ _ c.loop-i.invariant (at_bad _ _ _ _ _ c.loop-i.invariant.writing.same c.next-st.ensures c.in-Bad.is).0
