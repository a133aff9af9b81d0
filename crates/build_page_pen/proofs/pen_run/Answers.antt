-- `build_page_pen::pen_run` meets its contract. Assumes nothing.
use native.Mathlib.Omega.{arith}
use mathlib.Core.Path.{sym}
use mathlib.Core.Logic.{inr}
use lib.Seq.{length-take-le}
use Rattle.build_paging.proofs.Left.{all_left, some_left, next_left, left_again}
use Rattle.build_page_pen.proofs.Turns.{ready_low, run_none, run_begin, run_long, run-low, run-end-is, spot_asks, old_asks, turn_asks, left-some, slot-few, hint_asks, page-fits, pen_asks, page_turn}
use Rattle.build_page_pen.proofs.pen_run.Goals as goal

pub returns-then-h-eq0 : goal.returns-then-h-eq0
returns-then-h-eq0 c = record {
  by_index_2 = λ key rd. run_none _ _ _ _ _ _ c.requires.follow c.if-h-eq0.true key rd;
  known_2 = c.requires.known;
}

pub slice_bounds-hand_at-end : goal.slice_bounds-hand_at-end
slice_bounds-hand_at-end c = omega (arith, ready_low _ _ _ _ _ c.requires.by_index.1)

pub slice_bounds-hand_at-end-2 : goal.slice_bounds-hand_at-end-2
slice_bounds-hand_at-end-2 c = sym (length-take-le _ _ (omega (arith, ready_low _ _ _ _ _ c.requires.by_index.1)))

pub hand_at-hand-requires : goal.hand_at-hand-requires
hand_at-hand-requires c = record {
  known = c.requires.known;
  opens = c.requires.opens (omega (arith, c.if-h-eq0.false));
}

pub loop-done-init : goal.loop-done-init
loop-done-init c = rw (all_left c.args.h.count) (run_begin _ _ _ c.args.h _ _ _ c.requires.follow c.requires.runs _ c.requires.by_index.1 c.hand_at-hand.ensures.holds c.hand_at-hand.ensures.page_value)

pub slice_bounds-spot_at-end : goal.slice_bounds-spot_at-end
slice_bounds-spot_at-end c = omega (arith, run-low _ _ _ _ _ _ _ _ _ _ _ _ _ c.loop-done.invariant)

pub slice_bounds-spot_at-end-in-loop-done : goal.slice_bounds-spot_at-end-in-loop-done
slice_bounds-spot_at-end-in-loop-done c = sym (length-take-le _ _ (run-low _ _ _ _ _ _ _ _ _ _ _ _ _ c.loop-done.invariant))

pub spot_at-x-requires : goal.spot_at-x-requires
spot_at-x-requires c = let all = spot_asks _ _ _ _ _ _ _ _ _ _ _ _ _ c.loop-done.invariant (some_left _ _ c.loop-done-test.true) in record {
  holds = all.0;
  answers = all.1;
}

pub slice_bounds-old_here-end : goal.slice_bounds-old_here-end
slice_bounds-old_here-end c = omega (arith, run-low _ _ _ _ _ _ _ _ _ _ _ _ _ c.loop-done.invariant)

pub slice_bounds-old_here-end-in-loop-done : goal.slice_bounds-old_here-end-in-loop-done
slice_bounds-old_here-end-in-loop-done c = sym (length-take-le _ _ (run-low _ _ _ _ _ _ _ _ _ _ _ _ _ c.loop-done.invariant))

pub old_here-o-requires : goal.old_here-o-requires
old_here-o-requires c = let all = old_asks _ _ _ _ _ _ _ _ _ _ _ _ _ c.loop-done.invariant (some_left _ _ c.loop-done-test.true) _ c.spot_at-x.ensures in record {
  holds = all.0;
  i_lt_elems = all.1.0;
  answers = all.1.1;
}

pub turn-r-requires : goal.turn-r-requires
turn-r-requires c = let all = turn_asks _ _ _ _ _ _ _ _ _ _ _ _ _ c.loop-done.invariant (some_left _ _ c.loop-done-test.true) _ c.spot_at-x.ensures c.requires.sane in record {
  sane = all.0;
  holds = all.1.0;
  runs = all.1.1.0;
  follow = all.1.1.1.0;
  by_index = all.1.1.1.1;
}

pub put_hint-e-requires : goal.put_hint-e-requires
put_hint-e-requires c = hint_asks _ _ _ _ _ _ _ _ _ _ _ _ _ c.loop-done.invariant (some_left _ _ c.loop-done-test.true) _ c.spot_at-x.ensures _ c.old_here-o.ensures _ _ c.turn-r.ensures _ c.remote_addr-addr.ensures

pub overflow_add-l : goal.overflow_add-l
overflow_add-l c = omega (arith, page-fits _ _ _ _ _ _ _ _ _ _ _ _ _ c.loop-done.invariant (some_left _ _ c.loop-done-test.true) _ c.spot_at-x.ensures _ c.old_here-o.ensures _ _ c.turn-r.ensures _ c.remote_addr-addr.ensures _ _ c.put_hint-e.ensures.value c.put_hint-e.ensures.a_after, c.well_formed.0)

pub pen_old-k-requires : goal.pen_old-k-requires
pen_old-k-requires c = let all = pen_asks _ _ _ _ _ _ _ _ _ _ _ _ _ c.loop-done.invariant (some_left _ _ c.loop-done-test.true) _ c.spot_at-x.ensures _ c.old_here-o.ensures _ _ c.turn-r.ensures _ c.remote_addr-addr.ensures _ _ c.put_hint-e.ensures.value c.put_hint-e.ensures.a_after in record {
  old_below = all.0;
  above = all.1.0;
  asks = all.1.1;
}

pub overflow_add-q : goal.overflow_add-q
overflow_add-q c = omega (arith, slot-few _ _ _ _ _ _ _ _ _ _ _ _ _ c.loop-done.invariant (some_left _ _ c.loop-done-test.true) _ c.spot_at-x.ensures _ c.old_here-o.ensures _ _ c.turn-r.ensures)

pub overflow_sub-q : goal.overflow_sub-q
overflow_sub-q c = left-some _ _ _ _ _ _ _ _ _ _ _ _ _ c.loop-done.invariant (some_left _ _ c.loop-done-test.true) _ c.spot_at-x.ensures _ c.old_here-o.ensures _ _ c.turn-r.ensures

pub overflow_add-at : goal.overflow_add-at
overflow_add-at c = omega (arith, c.spot_at-x.ensures.slot)

pub loop-done-preserved : goal.loop-done-preserved
loop-done-preserved c = rw (next_left _ _) (page_turn _ _ _ _ _ _ _ _ _ _ _ _ _ c.loop-done.invariant (some_left _ _ c.loop-done-test.true) _ c.spot_at-x.ensures _ c.old_here-o.ensures _ _ c.turn-r.ensures _ c.remote_addr-addr.ensures _ _ c.put_hint-e.ensures.value c.put_hint-e.ensures.a_after _ _ c.pen_old-k.ensures.value c.pen_old-k.ensures.a_after _ _ (rw (left_again _ _ c.loop-done-test.true) c.first_of-page.ensures) (rw (left_again _ _ c.loop-done-test.true) c.first_of-slot.ensures))

pub shape_of-a : goal.shape_of-a
shape_of-a c = run_long _ _ _ _ _ _ _ _ _ _ _ _ _ c.loop-done.invariant

pub returns : goal.returns
returns c = record {
  by_index_2 = λ key rd. run-end-is _ _ _ _ _ _ _ _ _ _ _ _ _ c.loop-done.invariant (omega (arith, c.loop-done-test.false)) key rd;
  known_2 = inr c.loop-done.invariant.holds;
}
