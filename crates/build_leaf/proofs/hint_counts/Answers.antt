-- `build_leaf::hint_counts` meets its contract. Assumes nothing.
use native.Mathlib.Omega.{arith}
use Rattle.build_leaf.proofs.Fixed.{counts_none, counts_some}
use Rattle.build_leaf.proofs.hint_counts.Goals as goal

pub returns-then-t-eq0 : goal.returns-then-t-eq0
returns-then-t-eq0 c = let all = counts_none _ _ _ _ _ _ c.if-t-eq0.true in record {
  value = all.0;
  a_after = all.1;
}

pub overflow_mul-c : goal.overflow_mul-c
overflow_mul-c c = omega (arith, c.requires.remotes_bound c.if-t-eq0.false, c.requires.room_in_bounds, c.requires.room_le_max_size, c.requires.aged_le_remotes, c.well_formed.0)

pub overflow_add-c : goal.overflow_add-c
overflow_add-c c = omega (arith, c.requires.remotes_bound c.if-t-eq0.false, c.requires.room_in_bounds, c.requires.room_le_max_size, c.requires.aged_le_remotes, c.well_formed.0)

pub overflow_add-o : goal.overflow_add-o
overflow_add-o c = omega (arith, c.requires.remotes_bound c.if-t-eq0.false, c.requires.room_in_bounds, c.requires.room_le_max_size, c.requires.aged_le_remotes, c.well_formed.0)

pub overflow_mul-z : goal.overflow_mul-z
overflow_mul-z c = omega (arith, c.requires.remotes_bound c.if-t-eq0.false, c.requires.room_in_bounds, c.requires.room_le_max_size, c.requires.aged_le_remotes, c.well_formed.0)

pub overflow_add-z : goal.overflow_add-z
overflow_add-z c = omega (arith, c.requires.remotes_bound c.if-t-eq0.false, c.requires.room_in_bounds, c.requires.room_le_max_size, c.requires.aged_le_remotes, c.well_formed.0)

pub overflow_cast-t : goal.overflow_cast-t
overflow_cast-t c = omega (arith, c.requires.remotes_bound c.if-t-eq0.false, c.requires.room_in_bounds, c.requires.room_le_max_size, c.requires.aged_le_remotes, c.well_formed.0)

pub put_u32-requires : goal.put_u32-requires
put_u32-requires c = omega (arith, c.requires.remotes_bound c.if-t-eq0.false, c.requires.room_in_bounds, c.requires.room_le_max_size, c.requires.aged_le_remotes, c.well_formed.0)

pub overflow_cast-t-2 : goal.overflow_cast-t-2
overflow_cast-t-2 c = omega (arith, c.requires.remotes_bound c.if-t-eq0.false, c.requires.room_in_bounds, c.requires.room_le_max_size, c.requires.aged_le_remotes, c.well_formed.0)

pub put_u32-requires-2 : goal.put_u32-requires-2
put_u32-requires-2 c = omega (arith, c.requires.remotes_bound c.if-t-eq0.false, c.requires.room_in_bounds, c.put_u32.auto.buf)

pub overflow_sub-at : goal.overflow_sub-at
overflow_sub-at c = omega (arith, c.requires.remotes_bound c.if-t-eq0.false, c.requires.room_in_bounds, c.requires.room_le_max_size, c.requires.aged_le_remotes, c.well_formed.0)

pub zeros-requires : goal.zeros-requires
zeros-requires c = omega (arith, c.requires.remotes_bound c.if-t-eq0.false, c.requires.room_in_bounds, c.put_u32.auto.buf, c.put_u32-2.auto.buf)

pub overflow_mul-result : goal.overflow_mul-result
overflow_mul-result c = omega (arith, c.requires.remotes_bound c.if-t-eq0.false, c.requires.room_in_bounds, c.requires.room_le_max_size, c.requires.aged_le_remotes, c.well_formed.0)

pub overflow_add-result : goal.overflow_add-result
overflow_add-result c = omega (arith, c.requires.remotes_bound c.if-t-eq0.false, c.requires.room_in_bounds, c.requires.room_le_max_size, c.requires.aged_le_remotes, c.well_formed.0)

pub returns : goal.returns
returns c = let all = counts_some _ _ _ _ _ _ c.if-t-eq0.false _ _ _ c.put_u32.ensures c.put_u32-2.ensures c.zeros.ensures in record {
  value = all.0;
  a_after = all.1;
}
