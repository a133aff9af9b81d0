-- `build_table::weigh` meets its contract. Assumes nothing.
use native.Mathlib.Omega.{arith}
use Rattle.build_table.proofs.Leafing.{room_most, weigh_large, weigh_full, weigh_fits}
use Rattle.build_table.proofs.weigh.Goals as goal

pub overflow_mul-size : goal.overflow_mul-size
overflow_mul-size c = let q = c.requires.bounded in omega (arith, q.heads)

pub overflow_add-size : goal.overflow_add-size
overflow_add-size c = let q = c.requires.bounded in omega (arith, q.heads)

pub overflow_add-size-2 : goal.overflow_add-size-2
overflow_add-size-2 c = let q = c.requires.bounded in omega (arith, q.heads, c.requires.x_le_max_key.0)

pub overflow_add-size-3 : goal.overflow_add-size-3
overflow_add-size-3 c = let q = c.requires.bounded in omega (arith, q.heads, c.requires.x_le_max_key.0, c.requires.x_le_max_key.1)

pub overflow_add-size-4 : goal.overflow_add-size-4
overflow_add-size-4 c = let q = c.requires.bounded in omega (arith, q.heads, q.sums, c.requires.x_le_max_key.0, c.requires.x_le_max_key.1)

pub room_of-room-requires : goal.room_of-room-requires
room_of-room-requires c = (c.requires.end_bound.1, c.requires.bounded.counted)

pub overflow_add-size-5 : goal.overflow_add-size-5
overflow_add-size-5 c = let q = c.requires.bounded in omega (arith, q.heads, q.sums, c.requires.x_le_max_key.0, c.requires.x_le_max_key.1, c.room_of-room.ensures, room_most c.args.g.count c.args.t.counted c.requires.end_bound.1 q.counted)

pub returns-then-size-room-gt-MAX_SIZE : goal.returns-then-size-room-gt-MAX_SIZE
returns-then-size-room-gt-MAX_SIZE c = weigh_large _ _ _ _ _ _ c.room_of-room.ensures c.if-size-room-gt-MAX_SIZE.true

pub overflow_add-size-6 : goal.overflow_add-size-6
overflow_add-size-6 c = omega (arith, c.if-size-room-gt-MAX_SIZE.false)

pub overflow_cast-size : goal.overflow_cast-size
overflow_cast-size c = omega (arith, c.if-size-room-gt-MAX_SIZE.false)

pub overflow_add-end : goal.overflow_add-end
overflow_add-end c = omega (arith, c.requires.end_bound.0, c.frame_len.ensures, c.if-size-room-gt-MAX_SIZE.false)

pub overflow_add-end-2 : goal.overflow_add-end-2
overflow_add-end-2 c = let q = c.requires.bounded in omega (arith, q.remote, c.requires.end_bound.0, c.frame_len.ensures, c.if-size-room-gt-MAX_SIZE.false)

pub returns-then-len-end : goal.returns-then-len-end
returns-then-len-end c = weigh_full _ _ _ _ _ _ c.room_of-room.ensures c.if-size-room-gt-MAX_SIZE.false _ c.frame_len.ensures c.if-len-end.true

pub returns : goal.returns
returns c = weigh_fits _ _ _ _ _ _ c.room_of-room.ensures c.if-size-room-gt-MAX_SIZE.false _ c.frame_len.ensures c.if-len-end.false
