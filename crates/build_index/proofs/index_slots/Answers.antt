use native.Mathlib.Omega.{arith}
use mathlib.Core.Path.{sym, ap}
use lib.ListN.{length, take}
use lib.Seq.{length-take-le}
use Rattle.spans.specs.Span.{put}
use Rattle.spans.proofs.Writing.{begin}
use Rattle.build_sources.proofs.Sourced.{got, at-end, at_bad}
use Rattle.build_index.proofs.Passes.{slots_end, slot_asks, slot-room, off_small, slots_turn}
use Rattle.build_index.proofs.index_slots.Goals as goal

pub loop-i-init : goal.loop-i-init
loop-i-init c = record { writing = begin _ _ _ _ c.requires.footing_le_at c.requires.from_in_bounds; long = c.requires.long; small = c.requires.from_bound }

pub slice_bounds-next-end : goal.slice_bounds-next-end
slice_bounds-next-end c = let v = c.loop-i.invariant.writing in omega (arith, v.over, v.room)

pub slice_bounds-next-end-in-loop-i : goal.slice_bounds-next-end-in-loop-i
slice_bounds-next-end-in-loop-i c = let v = c.loop-i.invariant.writing in sym (length-take-le _ _ (omega (arith, v.over, v.room)))

pub overflow_add-i : goal.overflow_add-i
overflow_add-i c = let z = (got _ _ _ _ _ c.loop-i.invariant.writing.same c.next-st.ensures _ _ c.in-Got.is).placed.ksmall in omega (arith, z)

pub key_len-n-requires : goal.key_len-n-requires
key_len-n-requires c = slot_asks _ _ _ _ _ _ _ _ _ c.loop-i.invariant _ _ (got _ _ _ _ _ c.loop-i.invariant.writing.same c.next-st.ensures _ _ c.in-Got.is)

pub overflow_add-n : goal.overflow_add-n
overflow_add-n c = let z = off_small _ _ _ _ _ _ _ _ _ c.loop-i.invariant _ _ (got _ _ _ _ _ c.loop-i.invariant.writing.same c.next-st.ensures _ _ c.in-Got.is) _ c.key_len-n.ensures in omega (arith, z)

pub overflow_cast-off : goal.overflow_cast-off
overflow_cast-off c = let z = off_small _ _ _ _ _ _ _ _ _ c.loop-i.invariant _ _ (got _ _ _ _ _ c.loop-i.invariant.writing.same c.next-st.ensures _ _ c.in-Got.is) _ c.key_len-n.ensures in omega (arith, z)

pub put_u32-requires : goal.put_u32-requires
put_u32-requires c = slot-room _ _ _ _ _ _ _ _ _ c.loop-i.invariant _ _ (got _ _ _ _ _ c.loop-i.invariant.writing.same c.next-st.ensures _ _ c.in-Got.is)

pub overflow_add-to : goal.overflow_add-to
overflow_add-to c = let z = slot-room _ _ _ _ _ _ _ _ _ c.loop-i.invariant _ _ (got _ _ _ _ _ c.loop-i.invariant.writing.same c.next-st.ensures _ _ c.in-Got.is) in omega (arith, z, c.well_formed.0, c.loop-i.invariant.writing.long)

pub overflow_add-off : goal.overflow_add-off
overflow_add-off c = let z = off_small _ _ _ _ _ _ _ _ _ c.loop-i.invariant _ _ (got _ _ _ _ _ c.loop-i.invariant.writing.same c.next-st.ensures _ _ c.in-Got.is) _ c.key_len-n.ensures in omega (arith, z)

pub loop-i-smaller : goal.loop-i-smaller
loop-i-smaller c = (got _ _ _ _ _ c.loop-i.invariant.writing.same c.next-st.ensures _ _ c.in-Got.is).falls

pub loop-i-preserved : goal.loop-i-preserved
loop-i-preserved c = slots_turn _ _ _ _ _ _ _ _ _ c.loop-i.invariant _ _ (got _ _ _ _ _ c.loop-i.invariant.writing.same c.next-st.ensures _ _ c.in-Got.is) _ c.key_len-n.ensures _ c.put_u32.ensures

pub shape_of-a-in-End : goal.shape_of-a-in-End
shape_of-a-in-End c = c.loop-i.invariant.writing.long

pub returns-in-End : goal.returns-in-End
returns-in-End c = slots_end _ _ _ _ _ _ _ _ _ c.loop-i.invariant (at-end _ _ _ _ _ c.loop-i.invariant.writing.same c.next-st.ensures c.in-End.is).0

pub shape_of-a-in-Bad : goal.shape_of-a-in-Bad
shape_of-a-in-Bad c = c.loop-i.invariant.writing.long

pub returns-in-Bad : goal.returns-in-Bad
returns-in-Bad c = slots_end _ _ _ _ _ _ _ _ _ c.loop-i.invariant (at_bad _ _ _ _ _ c.loop-i.invariant.writing.same c.next-st.ensures c.in-Bad.is).0
