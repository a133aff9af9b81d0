use native.Mathlib.Omega.{arith}
use mathlib.Core.Path.{sym}
use Prim.Native.Nat.{◌-◌}
use lib.Seq.{length-take-le}
use Rattle.build_paging.proofs.Left.{all_left, some_left, next_left}
use Rattle.build_sources.proofs.Sourced.{one, no_one}
use Rattle.spans.proofs.Writing.{begin, finished}
use Rattle.build_history.proofs.Passes.{frames_asks, frames_turn, frames_nil, take_nil, take_none}
use Rattle.build_history.proofs.each_remote_frame.Goals as goal

pub loop-init : goal.loop-init
loop-init c = rw (all_left c.args.n) (begin _ _ _ _ c.requires.footing_le_at c.requires.n_in_bounds)

pub slice_bounds-next_of-end : goal.slice_bounds-next_of-end
slice_bounds-next_of-end c = let v = c.loop.invariant in omega (arith, v.over, v.room)

pub slice_bounds-next_of-end-in-loop : goal.slice_bounds-next_of-end-in-loop
slice_bounds-next_of-end-in-loop c = let v = c.loop.invariant in sym (length-take-le _ _ (omega (arith, v.over, v.room)))

pub shape_of-a-in_default : goal.shape_of-a-in_default
shape_of-a-in_default c = c.loop.invariant.long

pub returns-in_default : goal.returns-in_default
returns-in_default c = finished _ _ _ _ _ _ c.loop.invariant (frames_nil _ _ (take_nil (c.args.n - c.loop.counter) _ (no_one _ _ _ _ _ _ c.loop.invariant.same c.next_of-st.ensures c.in_default.is)))

pub remote_frame_of-to-requires : goal.remote_frame_of-to-requires
remote_frame_of-to-requires c = let all = frames_asks _ _ _ _ _ _ _ (one _ _ _ _ _ _ c.loop.invariant.same c.next_of-st.ensures _ _ c.in-Some.is) _ (some_left _ _ c.loop-test.true) _ _ _ _ c.loop.invariant in record {
  footing_le_at = all.0;
  placed = all.1.0;
  i_in_bounds = all.1.1;
}

pub loop-preserved : goal.loop-preserved
loop-preserved c = rw (next_left _ _) (frames_turn _ _ _ _ _ _ _ (one _ _ _ _ _ _ c.loop.invariant.same c.next_of-st.ensures _ _ c.in-Some.is) _ (some_left _ _ c.loop-test.true) _ _ _ _ c.loop.invariant _ _ c.remote_frame_of-to.ensures.value c.remote_frame_of-to.ensures.a_after)

pub shape_of-a : goal.shape_of-a
shape_of-a c = c.loop.invariant.long

pub returns : goal.returns
returns c = finished _ _ _ _ _ _ c.loop.invariant (frames_nil _ _ (take_none (c.args.n - c.loop.counter) _ (omega (arith, c.loop-test.false))))
