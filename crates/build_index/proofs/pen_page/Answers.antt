-- `build_index::pen_page` meets its contract. Assumes nothing.
use native.Mathlib.Omega.{arith}
use mathlib.Core.Path.{sym}
use lib.Seq.{length-take-le}
use Rattle.build_index.proofs.PagePen.{walk_begin, walk_end, walk-low, walk-judged, off_fits, slot-fits, child_asks, walk_turn}
use Rattle.build_index.proofs.pen_page.Goals as goal

pub loop-i-init : goal.loop-i-init
loop-i-init c = walk_begin _ _ _ _ _ _ _ _ _ c.requires.laid

pub slice_bounds-child_here-end : goal.slice_bounds-child_here-end
slice_bounds-child_here-end c = walk-low _ _ _ _ _ _ _ _ _ _ _ _ c.loop-i.invariant

pub slice_bounds-child_here-end-in-loop-i : goal.slice_bounds-child_here-end-in-loop-i
slice_bounds-child_here-end-in-loop-i c = sym (length-take-le _ _ (walk-low _ _ _ _ _ _ _ _ _ _ _ _ c.loop-i.invariant))

pub child_here-c-requires : goal.child_here-c-requires
child_here-c-requires c = record {
  judged = walk-judged _ _ _ _ _ _ _ _ _ _ _ _ c.loop-i.invariant c.requires.judged;
  i_lt_elems = omega (arith, c.loop-i-test.true, c.requires.end_le_elems);
}

pub overflow_sub-rec : goal.overflow_sub-rec
overflow_sub-rec c = (off_fits _ _ _ _ _ _ _ _ _ _ _ _ c.loop-i.invariant c.requires.judged c.requires.end_le_elems c.loop-i-test.true _ c.child_here-c.ensures).0

pub overflow_cast-rec : goal.overflow_cast-rec
overflow_cast-rec c = omega (arith, (off_fits _ _ _ _ _ _ _ _ _ _ _ _ c.loop-i.invariant c.requires.judged c.requires.end_le_elems c.loop-i-test.true _ c.child_here-c.ensures).1)

pub put_u32-requires : goal.put_u32-requires
put_u32-requires c = slot-fits _ _ _ _ _ _ _ _ _ _ _ _ c.loop-i.invariant c.requires.judged c.requires.end_le_elems c.loop-i-test.true _ c.child_here-c.ensures

pub pen_child-rec-requires : goal.pen_child-rec-requires
pen_child-rec-requires c = let all = child_asks _ _ _ _ _ _ _ _ _ _ _ _ c.loop-i.invariant c.requires.judged c.requires.end_le_elems c.loop-i-test.true _ c.child_here-c.ensures _ c.put_u32.ensures in record {
  key_below = all.0;
  p_bound = all.1.0;
  page_in_bounds = all.1.1;
}

pub overflow_add-slot : goal.overflow_add-slot
overflow_add-slot c = omega (arith, slot-fits _ _ _ _ _ _ _ _ _ _ _ _ c.loop-i.invariant c.requires.judged c.requires.end_le_elems c.loop-i-test.true _ c.child_here-c.ensures, c.well_formed)

pub loop-i-preserved : goal.loop-i-preserved
loop-i-preserved c = walk_turn _ _ _ _ _ _ _ _ _ _ _ _ c.loop-i.invariant c.requires.judged c.requires.end_le_elems c.loop-i-test.true _ c.child_here-c.ensures _ c.put_u32.ensures _ _ c.pen_child-rec.ensures.value c.pen_child-rec.ensures.a_after

pub returns : goal.returns
returns c = let all = walk_end _ _ _ _ _ _ _ _ _ _ _ _ c.loop-i.invariant c.loop-i-test.false in record {
  value = all.0;
  a_after = all.1;
}
