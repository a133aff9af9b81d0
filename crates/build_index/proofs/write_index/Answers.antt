use native.Mathlib.Omega.{arith}
use Rattle.build_image.proofs.Lengths.{frame-least}
use Rattle.build_index.proofs.Page.{sized, fits, head_asks, slots_asks, lo_asks, hi_asks, recs_asks, zeros-room, page-whole}
use Rattle.build_index.proofs.write_index.Goals as goal

pub overflow_mul-first : goal.overflow_mul-first
overflow_mul-first c = omega (arith, c.requires.few)

pub overflow_add-first : goal.overflow_add-first
overflow_add-first c = omega (arith, c.requires.few)

pub overflow_add-first-2 : goal.overflow_add-first-2
overflow_add-first-2 c = let z = sized _ _ _ _ _ c.args.m _ _ _ _ _ c.requires in omega (arith, z, c.requires.small)

pub overflow_add-first-3 : goal.overflow_add-first-3
overflow_add-first-3 c = let z = sized _ _ _ _ _ c.args.m _ _ _ _ _ c.requires in omega (arith, z, c.requires.small)

pub index_head-requires : goal.index_head-requires
index_head-requires c = let all = head_asks _ _ _ _ _ c.args.m _ _ _ _ _ c.requires in record {
  slots_at_in_bounds = all.0;
  n_le_max_entries = all.1.0;
  size_le_max_size = all.1.1.0;
  len_le_size = all.1.1.1;
}

pub overflow_add-s : goal.overflow_add-s
overflow_add-s c = let z = fits _ _ _ _ _ c.args.m _ _ _ _ _ c.requires in let y = sized _ _ _ _ _ c.args.m _ _ _ _ _ c.requires in omega (arith, z, y, c.well_formed.0)

pub index_slots-requires : goal.index_slots-requires
index_slots-requires c = let all = slots_asks _ _ _ _ _ c.args.m _ _ _ _ _ c.requires _ c.index_head.ensures in record {
  footing_le_at = all.0;
  long = all.1.0;
  from_in_bounds = all.1.1.0;
  from_bound = all.1.1.1;
}

pub overflow_mul-q : goal.overflow_mul-q
overflow_mul-q c = omega (arith, c.requires.few)

pub overflow_add-q : goal.overflow_add-q
overflow_add-q c = let z = fits _ _ _ _ _ c.args.m _ _ _ _ _ c.requires in let y = sized _ _ _ _ _ c.args.m _ _ _ _ _ c.requires in omega (arith, z, y, c.well_formed.0)

pub put_boundary-requires : goal.put_boundary-requires
put_boundary-requires c = let all = lo_asks _ _ _ _ _ c.args.m _ _ _ _ _ c.requires _ c.index_head.ensures _ c.index_slots.ensures in record {
  footing_le_at = all.0;
  len_in_bounds = all.1.0;
  within = all.1.1;
}

pub overflow_add-r : goal.overflow_add-r
overflow_add-r c = let z = fits _ _ _ _ _ c.args.m _ _ _ _ _ c.requires in let y = sized _ _ _ _ _ c.args.m _ _ _ _ _ c.requires in omega (arith, z, y, c.well_formed.0)

pub put_boundary-requires-2 : goal.put_boundary-requires-2
put_boundary-requires-2 c = let all = hi_asks _ _ _ _ _ c.args.m _ _ _ _ _ c.requires _ c.index_head.ensures _ c.index_slots.ensures _ c.put_boundary.ensures in record {
  footing_le_at = all.0;
  len_in_bounds = all.1.0;
  within = all.1.1;
}

pub overflow_add-t : goal.overflow_add-t
overflow_add-t c = let z = fits _ _ _ _ _ c.args.m _ _ _ _ _ c.requires in let y = sized _ _ _ _ _ c.args.m _ _ _ _ _ c.requires in omega (arith, z, y, c.well_formed.0)

pub index_recs-requires : goal.index_recs-requires
index_recs-requires c = let all = recs_asks _ _ _ _ _ c.args.m _ _ _ _ _ c.requires _ c.index_head.ensures _ c.index_slots.ensures _ c.put_boundary.ensures _ c.put_boundary-2.ensures in record {
  footing_le_at = all.0;
  long = all.1.0;
  from_in_bounds = all.1.1;
}

pub overflow_add-z : goal.overflow_add-z
overflow_add-z c = omega (arith, c.requires.small)

pub overflow_add-z-2 : goal.overflow_add-z-2
overflow_add-z-2 c = let z = fits _ _ _ _ _ c.args.m _ _ _ _ _ c.requires in omega (arith, z, c.well_formed.0)

pub overflow_cast-size : goal.overflow_cast-size
overflow_cast-size c = omega (arith, c.requires.small)

pub overflow_add-size : goal.overflow_add-size
overflow_add-size c = omega (arith, c.requires.small)

pub overflow_sub-frame_len : goal.overflow_sub-frame_len
overflow_sub-frame_len c = omega (arith, c.frame_len.ensures, frame-least c.args.size)

pub zeros-requires : goal.zeros-requires
zeros-requires c = zeros-room _ _ _ _ _ c.args.m _ _ _ _ _ c.requires _ c.index_head.ensures _ c.index_slots.ensures _ c.put_boundary.ensures _ c.put_boundary-2.ensures _ c.index_recs.ensures _ c.frame_len.ensures

pub returns : goal.returns
returns c = page-whole _ _ _ _ _ c.args.m _ _ _ _ _ c.requires _ c.index_head.ensures _ c.index_slots.ensures _ c.put_boundary.ensures _ c.put_boundary-2.ensures _ c.index_recs.ensures _ c.frame_len.ensures _ c.zeros.ensures
