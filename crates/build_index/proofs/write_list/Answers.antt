-- `build_index::write_list` meets its contract. Assumes nothing.
use native.Mathlib.Omega.{arith}
use Rattle.build_index.proofs.Fixed.{fixes, page-fits, pen_asks, page_done}
use Rattle.build_index.proofs.write_list.Goals as goal

pub index_fixed-requires : goal.index_fixed-requires
index_fixed-requires c = record {
  fixes = fixes _ _ _ c.args.m _ _ _ _ _ _ c.requires.ready;
  both_within = c.requires.ready.inside;
}

pub overflow_add-s : goal.overflow_add-s
overflow_add-s c = let z = (page-fits _ _ _ c.args.m _ _ _ _ _ _ c.requires.ready).0 in omega (arith, z, c.well_formed.0)

pub overflow_mul-r : goal.overflow_mul-r
overflow_mul-r c = omega (arith, c.requires.ready.few)

pub overflow_add-r : goal.overflow_add-r
overflow_add-r c = let z = (page-fits _ _ _ c.args.m _ _ _ _ _ _ c.requires.ready).0 in omega (arith, z, c.well_formed.0)

pub overflow_add-r-2 : goal.overflow_add-r-2
overflow_add-r-2 c = let z = (page-fits _ _ _ c.args.m _ _ _ _ _ _ c.requires.ready).0 in omega (arith, z, c.well_formed.0)

pub overflow_add-r-3 : goal.overflow_add-r-3
overflow_add-r-3 c = let z = (page-fits _ _ _ c.args.m _ _ _ _ _ _ c.requires.ready).0 in omega (arith, z, c.well_formed.0)

pub overflow_add-at : goal.overflow_add-at
overflow_add-at c = let z = (page-fits _ _ _ c.args.m _ _ _ _ _ _ c.requires.ready).0 in omega (arith, z, c.well_formed.0)

pub pen_list-requires : goal.pen_list-requires
pen_list-requires c = record {
  first_of_value = c.requires.first_of_value;
  laid = pen_asks _ _ _ c.args.m _ _ _ _ _ _ c.requires.ready _ c.index_fixed.ensures;
}

pub returns : goal.returns
returns c = page_done _ _ _ _ _ _ _ _ _ _ c.requires.ready _ c.index_fixed.ensures _ c.pen_list.ensures
