-- `build_pen::pen_all` meets its contract. Assumes nothing.
use native.Mathlib.Omega.{arith}
use Prim.Native.Nat.{◌-◌}
use Rattle.build_pen.proofs.PenningList.{all_begin, all_end, head_inside, head_past, head_key_lem, run-asked, ran-place, ran-less, head_hint, head_asks, all_turn}
use Rattle.build_pen.proofs.pen_all.Goals as goal

pub loop-at-init : goal.loop-at-init
loop-at-init c = all_begin _ _ _ _ _ _ _ _ _ c.requires.well c.requires.all_laid

pub record_at-i-requires : goal.record_at-i-requires
record_at-i-requires c = record {
  well = c.loop-at.invariant.well;
  at_in_bounds = c.loop-at-test.true;
}

pub past-requires : goal.past-requires
past-requires c = omega (arith, head_past _ _ _ _ _ _ _ _ _ _ _ _ _ c.loop-at.invariant c.loop-at-test.true _ c.record_at-i.ensures)

pub pen_run-ran-requires : goal.pen_run-ran-requires
pen_run-ran-requires c = let all = run-asked _ _ _ _ _ _ _ _ _ _ _ _ _ c.loop-at.invariant c.loop-at-test.true _ c.record_at-i.ensures _ c.past.ensures c.requires.sane in record {
  sane = all.0;
  well = all.1.0;
  blen_in_bounds = all.1.1.0;
  steady = all.1.1.1.0;
  rising = all.1.1.1.1.0;
  blen_len_bound = all.1.1.1.1.1;
}

pub overflow_cast-h : goal.overflow_cast-h
overflow_cast-h c = omega (arith, (ran-place _ _ _ _ _ _ _ _ _ _ _ _ _ c.loop-at.invariant c.loop-at-test.true _ c.record_at-i.ensures _ c.past.ensures _ _ c.pen_run-ran.ensures).0)

pub overflow_cast-h-in-loop-at : goal.overflow_cast-h-in-loop-at
overflow_cast-h-in-loop-at c = omega (arith, (ran-place _ _ _ _ _ _ _ _ _ _ _ _ _ c.loop-at.invariant c.loop-at-test.true _ c.record_at-i.ensures _ c.past.ensures _ _ c.pen_run-ran.ensures).1)

pub put_hint-hint-requires : goal.put_hint-hint-requires
put_hint-hint-requires c = head_hint _ _ _ _ _ _ _ _ _ _ _ _ _ c.loop-at.invariant c.loop-at-test.true _ c.record_at-i.ensures _ c.past.ensures _ _ c.pen_run-ran.ensures

pub pen_head-n-requires : goal.pen_head-n-requires
pen_head-n-requires c = record {
  inside = head_inside _ _ _ _ _ _ _ _ _ _ _ _ _ c.loop-at.invariant c.loop-at-test.true _ c.record_at-i.ensures;
  p_le_klen = head_key_lem _ _ _ _ _ _ _ _ _ _ _ _ _ c.loop-at.invariant c.loop-at-test.true _ c.record_at-i.ensures;
  asks = head_asks _ _ _ _ _ _ _ _ _ _ _ _ _ c.loop-at.invariant c.loop-at-test.true _ c.record_at-i.ensures _ c.past.ensures _ _ c.pen_run-ran.ensures _ _ c.put_hint-hint.ensures.value c.put_hint-hint.ensures.a_after;
}

pub loop-at-smaller : goal.loop-at-smaller
loop-at-smaller c = ran-less _ _ _ _ _ _ _ _ _ _ _ _ _ c.loop-at.invariant c.loop-at-test.true _ c.record_at-i.ensures _ c.past.ensures _ _ c.pen_run-ran.ensures

pub loop-at-preserved : goal.loop-at-preserved
loop-at-preserved c = all_turn _ _ _ _ _ _ _ _ _ _ _ _ _ c.loop-at.invariant c.loop-at-test.true _ c.record_at-i.ensures _ c.past.ensures _ _ c.pen_run-ran.ensures _ _ c.put_hint-hint.ensures.value c.put_hint-hint.ensures.a_after _ _ c.pen_head-n.ensures.value c.pen_head-n.ensures.a_after

pub shape_of-a : goal.shape_of-a
shape_of-a c = c.loop-at.invariant.pens.drawing.long

pub returns : goal.returns
returns c = let all = all_end _ _ _ _ _ _ _ _ _ _ _ _ _ c.loop-at.invariant c.loop-at-test.false in record {
  value = all.0;
  a_after = all.1;
}
