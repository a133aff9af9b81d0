use native.Mathlib.Omega.{arith}
use mathlib.Core.Path.{sym}
use Prim.Native.Nat.{◌-◌}
use lib.Seq.{length-take-le}
use Rattle.build_paging.proofs.Left.{all_left, some_left, next_left}
use Rattle.build_sources.proofs.Sourced.{one, no_one}
use Rattle.spans.proofs.Writing.{begin, finished}
use Rattle.build_history.proofs.Passes.{slot-room, slot_turn, slots_nil, take_nil, take_none, costs_found}
use Rattle.build_history.proofs.old_slots.Goals as goal

pub loop-init : goal.loop-init
loop-init c = rw (all_left c.args.n) (begin _ _ _ _ c.requires.footing_le_at c.requires.n_in_bounds, c.requires.n_bound)

pub slice_bounds-next_of-end : goal.slice_bounds-next_of-end
slice_bounds-next_of-end c = let v = c.loop.invariant.0 in omega (arith, v.over, v.room)

pub slice_bounds-next_of-end-in-loop : goal.slice_bounds-next_of-end-in-loop
slice_bounds-next_of-end-in-loop c = let v = c.loop.invariant.0 in sym (length-take-le _ _ (omega (arith, v.over, v.room)))

pub shape_of-a-in_default : goal.shape_of-a-in_default
shape_of-a-in_default c = c.loop.invariant.0.long

pub returns-in_default : goal.returns-in_default
returns-in_default c = finished _ _ _ _ _ _ c.loop.invariant.0 (slots_nil _ _ _ (take_nil (c.args.n - c.loop.counter) _ (no_one _ _ _ _ _ _ c.loop.invariant.0.same c.next_of-st.ensures c.in_default.is)))

pub overflow_cast-off : goal.overflow_cast-off
overflow_cast-off c = let v = c.loop.invariant.1 in omega arith

pub put_u32-requires : goal.put_u32-requires
put_u32-requires c = slot-room _ _ _ _ _ _ (one _ _ _ _ _ _ c.loop.invariant.0.same c.next_of-st.ensures _ _ c.in-Some.is) _ (some_left _ _ c.loop-test.true) _ _ _ _ _ _ _ c.loop.invariant.0

pub overflow_add-to : goal.overflow_add-to
overflow_add-to c = let z = slot-room _ _ _ _ _ _ (one _ _ _ _ _ _ c.loop.invariant.0.same c.next_of-st.ensures _ _ c.in-Some.is) _ (some_left _ _ c.loop-test.true) _ _ _ _ _ _ _ c.loop.invariant.0 in omega arith

pub overflow_cast-i : goal.overflow_cast-i
overflow_cast-i c = let z = (one _ _ _ _ _ _ c.loop.invariant.0.same c.next_of-st.ensures _ _ c.in-Some.is).placed.vsmall in omega arith

pub overflow_add-off : goal.overflow_add-off
overflow_add-off c = let z = costs_found _ _ _ _ _ _ (one _ _ _ _ _ _ c.loop.invariant.0.same c.next_of-st.ensures _ _ c.in-Some.is) _ (some_left _ _ c.loop-test.true) c.args.limit in let v = c.loop.invariant.1 in omega (arith, c.calc_size.ensures)

pub overflow_add-off-in-loop : goal.overflow_add-off-in-loop
overflow_add-off-in-loop c = let z = costs_found _ _ _ _ _ _ (one _ _ _ _ _ _ c.loop.invariant.0.same c.next_of-st.ensures _ _ c.in-Some.is) _ (some_left _ _ c.loop-test.true) c.args.limit in let v = c.loop.invariant.1 in omega (arith, c.calc_size.ensures)

pub loop-preserved : goal.loop-preserved
loop-preserved c = let z = costs_found _ _ _ _ _ _ (one _ _ _ _ _ _ c.loop.invariant.0.same c.next_of-st.ensures _ _ c.in-Some.is) _ (some_left _ _ c.loop-test.true) c.args.limit in
    let v = c.loop.invariant.1 in
    rw (next_left _ _) (slot_turn _ _ _ _ _ _ (one _ _ _ _ _ _ c.loop.invariant.0.same c.next_of-st.ensures _ _ c.in-Some.is) _ (some_left _ _ c.loop-test.true) _ _ _ _ _ _ _ c.loop.invariant.0 _ _ c.put_u32.ensures c.calc_size.ensures, omega (arith, c.calc_size.ensures, z, v))

pub shape_of-a : goal.shape_of-a
shape_of-a c = c.loop.invariant.0.long

pub returns : goal.returns
returns c = finished _ _ _ _ _ _ c.loop.invariant.0 (slots_nil _ _ _ (take_none (c.args.n - c.loop.counter) _ (omega (arith, c.loop-test.false))))
