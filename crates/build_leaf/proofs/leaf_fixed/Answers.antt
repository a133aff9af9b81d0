-- `build_leaf::leaf_fixed` meets its contract. Assumes nothing.
use native.Mathlib.Omega.{arith}
use Rattle.build_leaf.proofs.Fixed.{head_asks, fixed_fits, lo_asks, hi_asks, pad_asks, counts_asks, fixed_done}
use Rattle.build_leaf.proofs.leaf_fixed.Goals as goal

pub leaf_head-requires : goal.leaf_head-requires
leaf_head-requires c = let all = head_asks c.args.a.now c.args.footing c.args.m c.args.t c.args.e c.args.remote c.args.lo.now c.args.hi.now c.requires.fixes c.requires.both_within in record {
  slots_at_in_bounds = all.0;
  small = all.1.0;
  heads_le_max_entries = all.1.1;
}

pub overflow_add-x : goal.overflow_add-x
overflow_add-x c = omega (arith, (fixed_fits c.args.a.now c.args.footing c.args.m c.args.t c.args.e c.args.remote c.args.lo.now c.args.hi.now c.requires.fixes c.requires.both_within).0, (fixed_fits c.args.a.now c.args.footing c.args.m c.args.t c.args.e c.args.remote c.args.lo.now c.args.hi.now c.requires.fixes c.requires.both_within).1.0, (fixed_fits c.args.a.now c.args.footing c.args.m c.args.t c.args.e c.args.remote c.args.lo.now c.args.hi.now c.requires.fixes c.requires.both_within).1.1, c.well_formed.0)

pub overflow_mul-x : goal.overflow_mul-x
overflow_mul-x c = omega (arith, c.requires.fixes.count)

pub overflow_add-x-2 : goal.overflow_add-x-2
overflow_add-x-2 c = omega (arith, (fixed_fits c.args.a.now c.args.footing c.args.m c.args.t c.args.e c.args.remote c.args.lo.now c.args.hi.now c.requires.fixes c.requires.both_within).0, (fixed_fits c.args.a.now c.args.footing c.args.m c.args.t c.args.e c.args.remote c.args.lo.now c.args.hi.now c.requires.fixes c.requires.both_within).1.0, (fixed_fits c.args.a.now c.args.footing c.args.m c.args.t c.args.e c.args.remote c.args.lo.now c.args.hi.now c.requires.fixes c.requires.both_within).1.1, c.well_formed.0)

pub put_boundary-requires : goal.put_boundary-requires
put_boundary-requires c = let all = lo_asks c.args.a.now c.args.footing c.args.m c.args.t c.args.e c.args.remote c.args.lo.now c.args.hi.now c.requires.fixes c.requires.both_within _ c.leaf_head.ensures in record {
  footing_le_at = all.0;
  len_in_bounds = all.1.0;
  within = all.1.1;
}

pub overflow_add-y : goal.overflow_add-y
overflow_add-y c = omega (arith, (fixed_fits c.args.a.now c.args.footing c.args.m c.args.t c.args.e c.args.remote c.args.lo.now c.args.hi.now c.requires.fixes c.requires.both_within).0, (fixed_fits c.args.a.now c.args.footing c.args.m c.args.t c.args.e c.args.remote c.args.lo.now c.args.hi.now c.requires.fixes c.requires.both_within).1.0, (fixed_fits c.args.a.now c.args.footing c.args.m c.args.t c.args.e c.args.remote c.args.lo.now c.args.hi.now c.requires.fixes c.requires.both_within).1.1, c.well_formed.0)

pub put_boundary-requires-2 : goal.put_boundary-requires-2
put_boundary-requires-2 c = let all = hi_asks c.args.a.now c.args.footing c.args.m c.args.t c.args.e c.args.remote c.args.lo.now c.args.hi.now c.requires.fixes c.requires.both_within _ c.leaf_head.ensures _ c.put_boundary.ensures in record {
  footing_le_at = all.0;
  len_in_bounds = all.1.0;
  within = all.1.1;
}

pub overflow_add-q : goal.overflow_add-q
overflow_add-q c = omega (arith, (fixed_fits c.args.a.now c.args.footing c.args.m c.args.t c.args.e c.args.remote c.args.lo.now c.args.hi.now c.requires.fixes c.requires.both_within).0, (fixed_fits c.args.a.now c.args.footing c.args.m c.args.t c.args.e c.args.remote c.args.lo.now c.args.hi.now c.requires.fixes c.requires.both_within).1.0, (fixed_fits c.args.a.now c.args.footing c.args.m c.args.t c.args.e c.args.remote c.args.lo.now c.args.hi.now c.requires.fixes c.requires.both_within).1.1, c.well_formed.0)

pub overflow_add-q-2 : goal.overflow_add-q-2
overflow_add-q-2 c = omega (arith, (fixed_fits c.args.a.now c.args.footing c.args.m c.args.t c.args.e c.args.remote c.args.lo.now c.args.hi.now c.requires.fixes c.requires.both_within).0, (fixed_fits c.args.a.now c.args.footing c.args.m c.args.t c.args.e c.args.remote c.args.lo.now c.args.hi.now c.requires.fixes c.requires.both_within).1.0, (fixed_fits c.args.a.now c.args.footing c.args.m c.args.t c.args.e c.args.remote c.args.lo.now c.args.hi.now c.requires.fixes c.requires.both_within).1.1, c.well_formed.0)

pub overflow_add-w : goal.overflow_add-w
overflow_add-w c = omega (arith, (fixed_fits c.args.a.now c.args.footing c.args.m c.args.t c.args.e c.args.remote c.args.lo.now c.args.hi.now c.requires.fixes c.requires.both_within).0, (fixed_fits c.args.a.now c.args.footing c.args.m c.args.t c.args.e c.args.remote c.args.lo.now c.args.hi.now c.requires.fixes c.requires.both_within).1.0, (fixed_fits c.args.a.now c.args.footing c.args.m c.args.t c.args.e c.args.remote c.args.lo.now c.args.hi.now c.requires.fixes c.requires.both_within).1.1, c.well_formed.0)

pub overflow_sub-remote : goal.overflow_sub-remote
overflow_sub-remote c = omega (arith, (fixed_fits c.args.a.now c.args.footing c.args.m c.args.t c.args.e c.args.remote c.args.lo.now c.args.hi.now c.requires.fixes c.requires.both_within).1.0)

pub zeros-requires : goal.zeros-requires
zeros-requires c = pad_asks c.args.a.now c.args.footing c.args.m c.args.t c.args.e c.args.remote c.args.lo.now c.args.hi.now c.requires.fixes c.requires.both_within _ c.leaf_head.ensures _ c.put_boundary.ensures _ c.put_boundary-2.ensures

pub hint_counts-requires : goal.hint_counts-requires
hint_counts-requires c = let all = counts_asks c.args.a.now c.args.footing c.args.m c.args.t c.args.e c.args.remote c.args.lo.now c.args.hi.now c.requires.fixes c.requires.both_within _ c.leaf_head.ensures _ c.put_boundary.ensures _ c.put_boundary-2.ensures _ c.zeros.ensures in record {
  room_in_bounds = all.0;
  room_le_max_size = all.1.0;
  remotes_bound = all.1.1.0;
  aged_le_remotes = all.1.1.1;
}

pub shape_of-a : goal.shape_of-a
shape_of-a c = omega (arith, c.leaf_head.auto.a, c.put_boundary.auto.a, c.put_boundary-2.auto.a, c.zeros.auto.dst, c.hint_counts.auto.a)

pub returns : goal.returns
returns c = record {
  value = c.hint_counts.ensures.value;
  a_after = fixed_done c.args.a.now c.args.footing c.args.m c.args.t c.args.e c.args.remote c.args.lo.now c.args.hi.now c.requires.fixes c.requires.both_within _ c.leaf_head.ensures _ c.put_boundary.ensures _ c.put_boundary-2.ensures _ c.zeros.ensures _ c.hint_counts.ensures.a_after;
}
