use native.Mathlib.Omega.{arith}
use Rattle.build_heads.proofs.Slots.{slot_none, slot-room, slot-one}
use Rattle.build_heads.proofs.put_slot.Goals as goal

pub returns-then-old : goal.returns-then-old
returns-then-old c = let all = slot_none _ _ _ _ c.if-old.true in record {
  value = all.0;
  a_after = all.1;
}

pub put_u32-requires : goal.put_u32-requires
put_u32-requires c = slot-room c.args.a.now _ _ _ c.if-old.false c.requires.off_in_bounds

pub overflow_add-result : goal.overflow_add-result
overflow_add-result c = let z = slot-room c.args.a.now _ _ _ c.if-old.false c.requires.off_in_bounds in omega (arith, z, c.well_formed.0)

pub returns : goal.returns
returns c = let all = slot-one _ _ _ _ c.if-old.false _ c.put_u32.ensures in record {
  value = all.0;
  a_after = all.1;
}
