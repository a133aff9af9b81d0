-- `build_pen::pen_run` meets its contract. Assumes nothing.
use native.Mathlib.Omega.{arith}
use borrow.Author.Tests.{not-true, not-false}
use mathlib.Core.Path.{sym, ◌∙◌}
use Prim.Native.Nat.{◌-◌}
use Rattle.build_pen.proofs.RunningList.{run_begin, run_long, turn_asks, run_end, run_stop, run_inside, run_past, run-keys, run-less, run-left, run-slot, run-count, run-hint, run_asks, run-page, run_turn}
use Rattle.build_pen.proofs.pen_run.Goals as goal

pub loop-at-init : goal.loop-at-init
loop-at-init c = run_begin _ _ _ _ _ _ _ c.requires.well c.requires.blen_in_bounds c.requires.steady c.requires.rising c.requires.blen_len_bound

pub record_at-i-requires : goal.record_at-i-requires
record_at-i-requires c = record {
  well = c.loop-at.invariant.well;
  at_in_bounds = c.loop-at-test.true;
}

pub past-next-requires : goal.past-next-requires
past-next-requires c = omega (arith, run_past _ _ _ _ _ _ _ _ _ _ _ _ _ _ c.loop-at.invariant c.loop-at-test.true _ c.record_at-i.ensures)

pub same_key-requires : goal.same_key-requires
same_key-requires c = run-keys _ _ _ _ _ _ _ _ _ _ _ _ _ _ c.loop-at.invariant c.loop-at-test.true _ c.record_at-i.ensures

pub shape_of-a-then-not-same_key : goal.shape_of-a-then-not-same_key
shape_of-a-then-not-same_key c = run_long _ _ _ _ _ _ _ _ _ _ _ _ _ _ c.loop-at.invariant

pub returns-then-not-same_key : goal.returns-then-not-same_key
returns-then-not-same_key c = run_stop _ _ _ _ _ _ _ _ _ _ _ _ _ _ c.loop-at.invariant c.loop-at-test.true _ c.record_at-i.ensures (sym c.same_key.ensures ∙ c.if-not-same_key.true)

pub turn-r-requires : goal.turn-r-requires
turn-r-requires c = record {
  sane = c.requires.sane;
  well = c.loop-at.invariant.well;
  klen_in_bounds = c.loop-at.invariant.before;
  steady = c.loop-at.invariant.runs.steady;
  rising = turn_asks _ _ _ _ _ _ _ _ _ _ _ _ _ _ c.loop-at.invariant;
}

pub put_hint-h-requires : goal.put_hint-h-requires
put_hint-h-requires c = run-hint _ _ _ _ _ _ _ _ _ _ _ _ _ _ c.loop-at.invariant c.loop-at-test.true _ c.record_at-i.ensures (sym c.same_key.ensures ∙ c.if-not-same_key.false) _ _ c.turn-r.ensures

pub overflow_add-r : goal.overflow_add-r
overflow_add-r c = omega (arith, run-page _ _ _ _ _ _ _ _ _ _ _ _ _ _ c.loop-at.invariant c.loop-at-test.true _ c.record_at-i.ensures (sym c.same_key.ensures ∙ c.if-not-same_key.false) _ _ c.turn-r.ensures _ _ c.put_hint-h.ensures.value c.put_hint-h.ensures.a_after, c.well_formed.0)

pub pen_old-k-requires : goal.pen_old-k-requires
pen_old-k-requires c = record {
  inside = run_inside _ _ _ _ _ _ _ _ _ _ _ _ _ _ c.loop-at.invariant c.loop-at-test.true _ c.record_at-i.ensures;
  asks = run_asks _ _ _ _ _ _ _ _ _ _ _ _ _ _ c.loop-at.invariant c.loop-at-test.true _ c.record_at-i.ensures (sym c.same_key.ensures ∙ c.if-not-same_key.false) _ _ c.turn-r.ensures _ _ c.put_hint-h.ensures.value c.put_hint-h.ensures.a_after;
}

pub overflow_add-q : goal.overflow_add-q
overflow_add-q c = omega (arith, run-slot _ _ _ _ _ _ _ _ _ _ _ _ _ _ c.loop-at.invariant c.loop-at-test.true _ c.record_at-i.ensures (sym c.same_key.ensures ∙ c.if-not-same_key.false) _ _ c.turn-r.ensures, run-left _ _ _ _ _ _ _ _ _ _ _ _ _ _ c.loop-at.invariant c.loop-at-test.true _ c.record_at-i.ensures (sym c.same_key.ensures ∙ c.if-not-same_key.false) _ _ c.turn-r.ensures)

pub overflow_sub-q : goal.overflow_sub-q
overflow_sub-q c = omega (arith, run-left _ _ _ _ _ _ _ _ _ _ _ _ _ _ c.loop-at.invariant c.loop-at-test.true _ c.record_at-i.ensures (sym c.same_key.ensures ∙ c.if-not-same_key.false) _ _ c.turn-r.ensures)

pub overflow_add-run : goal.overflow_add-run
overflow_add-run c = omega (arith, run-count _ _ _ _ _ _ _ _ _ _ _ _ _ _ c.loop-at.invariant c.loop-at-test.true _ c.record_at-i.ensures (sym c.same_key.ensures ∙ c.if-not-same_key.false) _ _ c.turn-r.ensures)

pub loop-at-smaller : goal.loop-at-smaller
loop-at-smaller c = rw c.past-next.ensures (run-less _ _ _ _ _ _ _ _ _ _ _ _ _ _ c.loop-at.invariant c.loop-at-test.true _ c.record_at-i.ensures)

pub loop-at-preserved : goal.loop-at-preserved
loop-at-preserved c = rw c.past-next.ensures (run_turn _ _ _ _ _ _ _ _ _ _ _ _ _ _ c.loop-at.invariant c.loop-at-test.true _ c.record_at-i.ensures (sym c.same_key.ensures ∙ c.if-not-same_key.false) _ _ c.turn-r.ensures _ _ c.put_hint-h.ensures.value c.put_hint-h.ensures.a_after _ _ c.pen_old-k.ensures.value c.pen_old-k.ensures.a_after _ _ c.first_of-page.ensures c.first_of-slot.ensures)

pub shape_of-a : goal.shape_of-a
shape_of-a c = run_long _ _ _ _ _ _ _ _ _ _ _ _ _ _ c.loop-at.invariant

pub returns : goal.returns
returns c = run_end _ _ _ _ _ _ _ _ _ _ _ _ _ _ c.loop-at.invariant c.loop-at-test.false
