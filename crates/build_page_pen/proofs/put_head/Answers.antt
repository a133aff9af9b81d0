-- `build_page_pen::put_head` meets its contract. Assumes nothing.
use native.Mathlib.Omega.{arith}
use Rattle.build_page_pen.proofs.Copying.{head_fits, rest_asks, key_fits, head_asks, head_done}
use Rattle.build_page_pen.proofs.put_head.Goals as goal

pub overflow_add-at : goal.overflow_add-at
overflow_add-at c = omega (arith, head_fits _ _ _ _ _ _ _ c.args.h c.requires.head_below c.requires.p_bound c.requires.r_in_bounds _ c.ver_at-v.ensures _ _ c.write_leaf_front-k.ensures, c.well_formed.0)

pub put_rest-n-requires : goal.put_rest-n-requires
put_rest-n-requires c = let all = rest_asks _ _ _ _ _ _ _ c.args.h c.requires.head_below c.requires.p_bound c.requires.r_in_bounds _ c.ver_at-v.ensures _ _ c.write_leaf_front-k.ensures in record {
  key_below = all.0;
  p_bound = all.1.0;
  p_in_bounds = all.1.1;
}

pub overflow_add-at-2 : goal.overflow_add-at-2
overflow_add-at-2 c = omega (arith, head_fits _ _ _ _ _ _ _ c.args.h c.requires.head_below c.requires.p_bound c.requires.r_in_bounds _ c.ver_at-v.ensures _ _ c.write_leaf_front-k.ensures, c.well_formed.0)

pub overflow_add-at-3 : goal.overflow_add-at-3
overflow_add-at-3 c = omega (arith, key_fits _ _ _ _ _ _ _ c.args.h c.requires.head_below c.requires.p_bound c.requires.r_in_bounds _ c.ver_at-v.ensures _ _ c.write_leaf_front-k.ensures _ _ c.put_rest-n.ensures.value c.put_rest-n.ensures.a_after, c.well_formed.0)

pub put_value-j-requires : goal.put_value-j-requires
put_value-j-requires c = let all = head_asks _ _ _ _ _ _ _ c.args.h c.requires.head_below c.requires.p_bound c.requires.r_in_bounds _ c.ver_at-v.ensures _ _ c.write_leaf_front-k.ensures _ _ c.put_rest-n.ensures.value c.put_rest-n.ensures.a_after in record {
  value_below = all.0;
  v_in_bounds = all.1;
}

pub overflow_add-result : goal.overflow_add-result
overflow_add-result c = let z = (head_done _ _ _ _ _ _ _ c.args.h c.requires.head_below c.requires.p_bound c.requires.r_in_bounds _ c.ver_at-v.ensures _ _ c.write_leaf_front-k.ensures _ _ c.put_rest-n.ensures.value c.put_rest-n.ensures.a_after _ _ c.put_value-j.ensures.value c.put_value-j.ensures.a_after).0 in omega (arith, z, c.requires.r_in_bounds, c.well_formed.0)

pub overflow_add-result-2 : goal.overflow_add-result-2
overflow_add-result-2 c = let z = (head_done _ _ _ _ _ _ _ c.args.h c.requires.head_below c.requires.p_bound c.requires.r_in_bounds _ c.ver_at-v.ensures _ _ c.write_leaf_front-k.ensures _ _ c.put_rest-n.ensures.value c.put_rest-n.ensures.a_after _ _ c.put_value-j.ensures.value c.put_value-j.ensures.a_after).0 in omega (arith, z, c.requires.r_in_bounds, c.well_formed.0)

pub returns : goal.returns
returns c = let all = head_done _ _ _ _ _ _ _ c.args.h c.requires.head_below c.requires.p_bound c.requires.r_in_bounds _ c.ver_at-v.ensures _ _ c.write_leaf_front-k.ensures _ _ c.put_rest-n.ensures.value c.put_rest-n.ensures.a_after _ _ c.put_value-j.ensures.value c.put_value-j.ensures.a_after in record {
  value = all.0;
  a_after = all.1;
}
