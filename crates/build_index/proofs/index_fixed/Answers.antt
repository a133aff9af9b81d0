-- `build_index::index_fixed` meets its contract. Assumes nothing.
use native.Mathlib.Omega.{arith}
use Rattle.build_index.proofs.Fixed.{fixed_fits, head_asks, lo_asks, hi_asks, zeros_fit, fixed_done}
use Rattle.build_index.proofs.index_fixed.Goals as goal

pub index_head-requires : goal.index_head-requires
index_head-requires c = let all = head_asks _ _ _ c.args.m _ _ _ _ _ c.requires.fixes c.requires.both_within in record {
  slots_at_in_bounds = all.0;
  n_le_max_entries = all.1.0;
  size_le_max_size = all.1.1.0;
  len_le_size = all.1.1.1;
}

pub overflow_add-q : goal.overflow_add-q
overflow_add-q c = let z = fixed_fits _ _ _ c.args.m _ _ _ _ _ c.requires.fixes c.requires.both_within in omega (arith, z, c.requires.fixes.end, c.well_formed.0)

pub overflow_mul-q : goal.overflow_mul-q
overflow_mul-q c = omega (arith, c.requires.fixes.few)

pub overflow_add-q-2 : goal.overflow_add-q-2
overflow_add-q-2 c = let z = fixed_fits _ _ _ c.args.m _ _ _ _ _ c.requires.fixes c.requires.both_within in omega (arith, z, c.requires.fixes.end, c.well_formed.0)

pub put_boundary-requires : goal.put_boundary-requires
put_boundary-requires c = let all = lo_asks _ _ _ c.args.m _ _ _ _ _ c.requires.fixes c.requires.both_within _ c.index_head.ensures in record {
  footing_le_at = all.0;
  len_in_bounds = all.1.0;
  within = all.1.1;
}

pub overflow_add-r : goal.overflow_add-r
overflow_add-r c = let z = fixed_fits _ _ _ c.args.m _ _ _ _ _ c.requires.fixes c.requires.both_within in omega (arith, z, c.requires.fixes.end, c.well_formed.0)

pub put_boundary-requires-2 : goal.put_boundary-requires-2
put_boundary-requires-2 c = let all = hi_asks _ _ _ c.args.m _ _ _ _ _ c.requires.fixes c.requires.both_within _ c.index_head.ensures _ c.put_boundary.ensures in record {
  footing_le_at = all.0;
  len_in_bounds = all.1.0;
  within = all.1.1;
}

pub overflow_add-z : goal.overflow_add-z
overflow_add-z c = omega (arith, c.requires.fixes.small)

pub overflow_add-z-2 : goal.overflow_add-z-2
overflow_add-z-2 c = let z = fixed_fits _ _ _ c.args.m _ _ _ _ _ c.requires.fixes c.requires.both_within in omega (arith, z, c.requires.fixes.end, c.well_formed.0)

pub overflow_cast-size : goal.overflow_cast-size
overflow_cast-size c = omega (arith, c.requires.fixes.small)

pub overflow_add-end : goal.overflow_add-end
overflow_add-end c = omega (arith, c.frame_len.ensures, c.requires.fixes.end, c.well_formed.0)

pub overflow_sub-end : goal.overflow_sub-end
overflow_sub-end c = let z = fixed_fits _ _ _ c.args.m _ _ _ _ _ c.requires.fixes c.requires.both_within in omega (arith, z, c.frame_len.ensures)

pub zeros-requires : goal.zeros-requires
zeros-requires c = zeros_fit _ _ _ c.args.m _ _ _ _ _ c.requires.fixes c.requires.both_within _ c.index_head.ensures _ c.put_boundary.ensures _ c.put_boundary-2.ensures _ c.frame_len.ensures

pub returns : goal.returns
returns c = fixed_done _ _ _ _ _ _ _ _ _ c.requires.fixes c.requires.both_within _ c.index_head.ensures _ c.put_boundary.ensures _ c.put_boundary-2.ensures _ c.frame_len.ensures _ c.zeros.ensures
