-- `build_index::pen_list` meets its contract. Assumes nothing.
use native.Mathlib.Omega.{arith}
use Prim.Native.Nat.{◌-◌}
use Rattle.build_index.proofs.Listed.{read_begin, read-end, ten_fit, entry-fits, off_fits, slot-fits, rec_asks, read-less, read_turn}
use Rattle.build_index.proofs.pen_list.Goals as goal

pub loop-at-init : goal.loop-at-init
loop-at-init c = read_begin _ _ _ _ _ _ c.requires.first_of_value c.requires.laid

pub read_u16_be-n-requires : goal.read_u16_be-n-requires
read_u16_be-n-requires c = omega (arith, ten_fit _ _ _ _ _ _ _ _ _ c.loop-at.invariant c.loop-at-test.true)

pub overflow_cast-n : goal.overflow_cast-n
overflow_cast-n c = omega arith

pub overflow_add-kat : goal.overflow_add-kat
overflow_add-kat c = omega (arith, ten_fit _ _ _ _ _ _ _ _ _ c.loop-at.invariant c.loop-at-test.true, c.well_formed)

pub overflow_sub-rec : goal.overflow_sub-rec
overflow_sub-rec c = (off_fits _ _ _ _ _ _ _ _ _ c.loop-at.invariant c.loop-at-test.true _ c.read_u16_be-n.ensures).0

pub overflow_cast-rec : goal.overflow_cast-rec
overflow_cast-rec c = omega (arith, (off_fits _ _ _ _ _ _ _ _ _ c.loop-at.invariant c.loop-at-test.true _ c.read_u16_be-n.ensures).1)

pub put_u32-requires : goal.put_u32-requires
put_u32-requires c = slot-fits _ _ _ _ _ _ _ _ _ c.loop-at.invariant c.loop-at-test.true _ c.read_u16_be-n.ensures

pub pen_rec-rec-requires : goal.pen_rec-rec-requires
pen_rec-rec-requires c = let all = rec_asks _ _ _ _ _ _ _ _ _ c.loop-at.invariant c.loop-at-test.true _ c.read_u16_be-n.ensures _ c.put_u32.ensures in record {
  n_in_bounds = all.0;
  n_le_max_key = all.1.0;
  n_in_bounds_2 = all.1.1;
}

pub overflow_add-slot : goal.overflow_add-slot
overflow_add-slot c = omega (arith, slot-fits _ _ _ _ _ _ _ _ _ c.loop-at.invariant c.loop-at-test.true _ c.read_u16_be-n.ensures, c.well_formed)

pub overflow_add-at : goal.overflow_add-at
overflow_add-at c = omega (arith, entry-fits _ _ _ _ _ _ _ _ _ c.loop-at.invariant c.loop-at-test.true _ c.read_u16_be-n.ensures, c.well_formed)

pub overflow_add-at-in-loop-at : goal.overflow_add-at-in-loop-at
overflow_add-at-in-loop-at c = omega (arith, entry-fits _ _ _ _ _ _ _ _ _ c.loop-at.invariant c.loop-at-test.true _ c.read_u16_be-n.ensures, c.well_formed)

pub loop-at-smaller : goal.loop-at-smaller
loop-at-smaller c = read-less _ _ _ _ _ _ _ _ _ c.loop-at.invariant c.loop-at-test.true _ c.read_u16_be-n.ensures

pub loop-at-preserved : goal.loop-at-preserved
loop-at-preserved c = read_turn _ _ _ _ _ _ _ _ _ c.loop-at.invariant c.loop-at-test.true _ c.read_u16_be-n.ensures _ c.put_u32.ensures _ _ c.pen_rec-rec.ensures.value c.pen_rec-rec.ensures.a_after

pub shape_of-a : goal.shape_of-a
shape_of-a c = c.loop-at.invariant.penning.drawing.long

pub returns : goal.returns
returns c = read-end _ _ _ _ _ _ _ _ _ c.loop-at.invariant c.loop-at-test.false
