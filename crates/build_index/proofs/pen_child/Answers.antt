-- `build_index::pen_child` meets its contract. Assumes nothing.
use native.Mathlib.Omega.{arith}
use Rattle.build_index.proofs.PagePen.{child_fits, rest_asks, child-id, child-end}
use Rattle.build_index.proofs.pen_child.Goals as goal

pub overflow_add-to : goal.overflow_add-to
overflow_add-to c = omega (arith, child_fits _ _ _ _ _ c.requires.key_below c.requires.p_bound c.requires.page_in_bounds _ _ c.write-k.ensures, c.well_formed.0)

pub put_rest-requires : goal.put_rest-requires
put_rest-requires c = let all = rest_asks _ _ _ _ _ c.requires.key_below c.requires.p_bound c.requires.page_in_bounds _ _ c.write-k.ensures in record {
  key_below = all.0;
  p_bound = all.1.0;
  p_in_bounds = all.1.1;
}

pub overflow_add-v : goal.overflow_add-v
overflow_add-v c = omega (arith, child_fits _ _ _ _ _ c.requires.key_below c.requires.p_bound c.requires.page_in_bounds _ _ c.write-k.ensures, c.well_formed.0)

pub put_u64-requires : goal.put_u64-requires
put_u64-requires c = child-id _ _ _ _ _ c.requires.key_below c.requires.p_bound c.requires.page_in_bounds _ _ c.write-k.ensures _ c.put_rest.ensures.a_after

pub overflow_add-result : goal.overflow_add-result
overflow_add-result c = omega (arith, child_fits _ _ _ _ _ c.requires.key_below c.requires.p_bound c.requires.page_in_bounds _ _ c.write-k.ensures, c.well_formed.0)

pub returns : goal.returns
returns c = let all = child-end _ _ _ _ _ c.requires.key_below c.requires.p_bound c.requires.page_in_bounds _ _ c.write-k.ensures _ c.put_rest.ensures.a_after _ c.put_u64.ensures in record {
  value = all.0;
  a_after = all.1;
}
