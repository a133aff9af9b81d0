-- `build_page_pen::pen_page` meets its contract. Assumes nothing.
use native.Mathlib.Omega.{arith}
use mathlib.Core.Path.{refl, sym}
use mathlib.Core.Logic.{inl}
use lib.Seq.{length-take-le}
use Rattle.build_page_pen.proofs.Leaves.{page_begin, page-long, page-low, page-end, head_asks, run_asks, run-place, hint_asks, pen_asks, page_turn}
use Rattle.build_page_pen.proofs.pen_page.Goals as goal

pub loop-i-init : goal.loop-i-init
loop-i-init c = page_begin _ _ _ _ _ _ _ _ _ c.requires.judged c.requires.judged_2 c.requires.end_le_elems _ _ _ _ _ c.requires.all_laid (inl c.no_hand-hand.ensures)

pub slice_bounds-head_here-end : goal.slice_bounds-head_here-end
slice_bounds-head_here-end c = omega (arith, page-low _ _ _ _ _ _ _ _ _ c.requires.judged c.requires.judged_2 c.requires.end_le_elems _ _ _ _ _ _ _ _ c.loop-i.invariant)

pub slice_bounds-head_here-end-in-loop-i : goal.slice_bounds-head_here-end-in-loop-i
slice_bounds-head_here-end-in-loop-i c = sym (length-take-le _ _ (page-low _ _ _ _ _ _ _ _ _ c.requires.judged c.requires.judged_2 c.requires.end_le_elems _ _ _ _ _ _ _ _ c.loop-i.invariant))

pub head_here-r-requires : goal.head_here-r-requires
head_here-r-requires c = let all = head_asks _ _ _ _ _ _ _ _ _ c.requires.judged c.requires.judged_2 c.requires.end_le_elems _ _ _ _ _ _ _ _ c.loop-i.invariant c.loop-i-test.true in record {
  judged = all.0;
  i_lt_elems = all.1;
}

pub pen_run-x-requires : goal.pen_run-x-requires
pen_run-x-requires c = let all = run_asks _ _ _ _ _ _ _ _ _ c.requires.judged c.requires.judged_2 c.requires.end_le_elems _ _ _ _ _ _ _ _ c.loop-i.invariant c.loop-i-test.true _ c.head_here-r.ensures c.requires.sane in record {
  sane = all.0;
  known = all.1.0;
  runs = all.1.1.0;
  opens = all.1.1.1.0;
  follow = all.1.1.1.1.0;
  by_index = all.1.1.1.1.1;
}

pub overflow_cast-new : goal.overflow_cast-new
overflow_cast-new c = omega (arith, run-place _ _ _ _ _ _ _ _ _ c.requires.judged c.requires.judged_2 c.requires.end_le_elems _ _ _ _ _ _ _ _ c.loop-i.invariant c.loop-i-test.true _ c.head_here-r.ensures _ _ c.pen_run-x.ensures.by_index_2 c.pen_run-x.ensures.known_2)

pub put_hint-hint-requires : goal.put_hint-hint-requires
put_hint-hint-requires c = hint_asks _ _ _ _ _ _ _ _ _ c.requires.judged c.requires.judged_2 c.requires.end_le_elems _ _ _ _ _ _ _ _ c.loop-i.invariant c.loop-i-test.true _ c.head_here-r.ensures _ _ c.pen_run-x.ensures.by_index_2 c.pen_run-x.ensures.known_2 _ c.remote_addr-addr.ensures

pub pen_head-n-requires : goal.pen_head-n-requires
pen_head-n-requires c = let all = pen_asks _ _ _ _ _ _ _ _ _ c.requires.judged c.requires.judged_2 c.requires.end_le_elems _ _ _ _ _ _ _ _ c.loop-i.invariant c.loop-i-test.true _ c.head_here-r.ensures _ _ c.pen_run-x.ensures.by_index_2 c.pen_run-x.ensures.known_2 _ c.remote_addr-addr.ensures _ _ c.put_hint-hint.ensures.value c.put_hint-hint.ensures.a_after in record {
  head_below = all.0;
  p_bound = all.1.0;
  above = all.1.1.0;
  asks = all.1.1.1;
}

pub loop-i-preserved : goal.loop-i-preserved
loop-i-preserved c = page_turn _ _ _ _ _ _ _ _ _ c.requires.judged c.requires.judged_2 c.requires.end_le_elems _ _ _ _ _ _ _ _ c.loop-i.invariant c.loop-i-test.true _ c.head_here-r.ensures _ _ c.pen_run-x.ensures.by_index_2 c.pen_run-x.ensures.known_2 _ c.remote_addr-addr.ensures _ _ c.put_hint-hint.ensures.value c.put_hint-hint.ensures.a_after _ _ c.pen_head-n.ensures.value c.pen_head-n.ensures.a_after

pub shape_of-a : goal.shape_of-a
shape_of-a c = page-long _ _ _ _ _ _ _ _ _ c.requires.judged c.requires.judged_2 c.requires.end_le_elems _ _ _ _ _ _ _ _ c.loop-i.invariant

pub returns : goal.returns
returns c = page-end _ _ _ _ _ _ _ _ _ c.requires.judged c.requires.judged_2 c.requires.end_le_elems _ _ _ _ _ _ _ _ c.loop-i.invariant _ _ refl refl c.loop-i-test.false
