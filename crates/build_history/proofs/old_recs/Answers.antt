use native.Mathlib.Omega.{arith}
use mathlib.Core.Path.{sym}
use Prim.Native.Nat.{◌-◌}
use lib.Seq.{length-take-le}
use Rattle.build_paging.proofs.Left.{all_left, some_left, next_left}
use Rattle.build_sources.proofs.Sourced.{one, no_one}
use Rattle.spans.proofs.Writing.{begin, finished}
use Rattle.build_history.proofs.Passes.{recs_asks, recs-room, recs_turn, recs_nil, take_nil, take_none, remotes-found}
use Rattle.build_history.proofs.old_recs.Goals as goal

pub loop-init : goal.loop-init
loop-init c = rw (all_left c.args.n) (begin _ _ _ _ c.requires.footing_le_at c.requires.n_in_bounds, c.requires.n_in_bounds_2)

pub slice_bounds-next_of-end : goal.slice_bounds-next_of-end
slice_bounds-next_of-end c = let v = c.loop.invariant.0 in omega (arith, v.over, v.room)

pub slice_bounds-next_of-end-in-loop : goal.slice_bounds-next_of-end-in-loop
slice_bounds-next_of-end-in-loop c = let v = c.loop.invariant.0 in sym (length-take-le _ _ (omega (arith, v.over, v.room)))

pub shape_of-a-in_default : goal.shape_of-a-in_default
shape_of-a-in_default c = c.loop.invariant.0.long

pub returns-in_default : goal.returns-in_default
returns-in_default c = finished _ _ _ _ _ _ c.loop.invariant.0 (recs_nil _ _ _ (take_nil (c.args.n - c.loop.counter) _ (no_one _ _ _ _ _ _ c.loop.invariant.0.same c.next_of-st.ensures c.in_default.is)))

pub overflow_cast-i : goal.overflow_cast-i
overflow_cast-i c = let z = (one _ _ _ _ _ _ c.loop.invariant.0.same c.next_of-st.ensures _ _ c.in-Some.is).placed.vsmall in omega arith

pub overflow_add-past : goal.overflow_add-past
overflow_add-past c = let z = recs-room _ _ _ _ _ _ _ (one _ _ _ _ _ _ c.loop.invariant.0.same c.next_of-st.ensures _ _ c.in-Some.is) _ (some_left _ _ c.loop-test.true) _ _ _ _ _ c.loop.invariant.0 in omega (arith, c.well_formed.0, c.loop.invariant.0.long, c.calc_size.ensures)

pub overflow_add-past-in-loop : goal.overflow_add-past-in-loop
overflow_add-past-in-loop c = let z = recs-room _ _ _ _ _ _ _ (one _ _ _ _ _ _ c.loop.invariant.0.same c.next_of-st.ensures _ _ c.in-Some.is) _ (some_left _ _ c.loop-test.true) _ _ _ _ _ c.loop.invariant.0 in omega (arith, c.well_formed.0, c.loop.invariant.0.long, c.calc_size.ensures)

pub remote_len-requires : goal.remote_len-requires
remote_len-requires c = (one _ _ _ _ _ _ c.loop.invariant.0.same c.next_of-st.ensures _ _ c.in-Some.is).placed.vsmall

pub overflow_add-beyond : goal.overflow_add-beyond
overflow_add-beyond c = let z = remotes-found _ _ _ _ _ _ (one _ _ _ _ _ _ c.loop.invariant.0.same c.next_of-st.ensures _ _ c.in-Some.is) _ (some_left _ _ c.loop-test.true) c.args.limit in let v = c.loop.invariant.1 in omega (arith, c.well_formed.0, c.remote_len.ensures)

pub old_rec-requires : goal.old_rec-requires
old_rec-requires c = let all = recs_asks _ _ _ _ _ _ _ (one _ _ _ _ _ _ c.loop.invariant.0.same c.next_of-st.ensures _ _ c.in-Some.is) _ (some_left _ _ c.loop-test.true) _ _ _ _ _ c.loop.invariant.0 in record {
  footing_le_at = all.0;
  placed = all.1.0;
  i_in_bounds = all.1.1;
}

pub loop-preserved : goal.loop-preserved
loop-preserved c = let z = remotes-found _ _ _ _ _ _ (one _ _ _ _ _ _ c.loop.invariant.0.same c.next_of-st.ensures _ _ c.in-Some.is) _ (some_left _ _ c.loop-test.true) c.args.limit in
    let v = c.loop.invariant.1 in
    rw (next_left _ _) (recs_turn _ _ _ _ _ _ _ (one _ _ _ _ _ _ c.loop.invariant.0.same c.next_of-st.ensures _ _ c.in-Some.is) _ (some_left _ _ c.loop-test.true) _ _ _ _ _ c.loop.invariant.0 _ _ _ c.old_rec.ensures c.calc_size.ensures c.remote_len.ensures, omega (arith, c.remote_len.ensures, z, v))

pub shape_of-a : goal.shape_of-a
shape_of-a c = c.loop.invariant.0.long

pub returns : goal.returns
returns c = finished _ _ _ _ _ _ c.loop.invariant.0 (recs_nil _ _ _ (take_none (c.args.n - c.loop.counter) _ (omega (arith, c.loop-test.false))))
