-- `build_table::weigh_index` meets its contract. Assumes nothing.
use native.Mathlib.Omega.{arith}
use Rattle.build_table.proofs.Judging.{weigh_index_large, weigh_index_full, weigh_index_fits}
use borrow.Author.Tests.{not-true, not-false}
use Rattle.build_table.proofs.weigh_index.Goals as goal

pub overflow_mul-size : goal.overflow_mul-size
overflow_mul-size c = omega (arith, c.requires.n_le_max_entries.0)

pub overflow_add-size : goal.overflow_add-size
overflow_add-size c = omega (arith, c.requires.n_le_max_entries.0)

pub overflow_add-size-2 : goal.overflow_add-size-2
overflow_add-size-2 c = omega (arith, c.requires.n_le_max_entries.0, c.requires.x_le_max_key.0)

pub overflow_add-size-3 : goal.overflow_add-size-3
overflow_add-size-3 c = omega (arith, c.requires.n_le_max_entries.0, c.requires.x_le_max_key.0, c.requires.x_le_max_key.1)

pub overflow_add-size-4 : goal.overflow_add-size-4
overflow_add-size-4 c = omega (arith, c.requires.n_le_max_entries.0, c.requires.x_le_max_key.0, c.requires.x_le_max_key.1, c.requires.n_le_max_entries.1)

pub returns-then-size-gt-MAX_SIZE : goal.returns-then-size-gt-MAX_SIZE
returns-then-size-gt-MAX_SIZE c = weigh_index_large _ _ _ _ _ _ c.if-size-gt-MAX_SIZE.true

pub overflow_cast-size : goal.overflow_cast-size
overflow_cast-size c = omega (arith, c.if-size-gt-MAX_SIZE.false)

pub returns-then-not-room : goal.returns-then-not-room
returns-then-not-room c = weigh_index_full _ _ _ _ _ _ c.if-size-gt-MAX_SIZE.false _ c.frame_len.ensures _ c.room.ensures (c.if-not-room.true)

pub returns : goal.returns
returns c = weigh_index_fits _ _ _ _ _ _ c.if-size-gt-MAX_SIZE.false _ c.frame_len.ensures _ c.room.ensures (c.if-not-room.false)
