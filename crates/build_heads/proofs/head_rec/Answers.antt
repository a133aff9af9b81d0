use native.Mathlib.Omega.{arith}
use Rattle.build_heads.proofs.Rests.{head_fits, rest_needs, val_needs, head_end}
use Rattle.build_heads.proofs.head_rec.Goals as goal

pub overflow_add-at : goal.overflow_add-at
overflow_add-at c = let z = head_fits _ _ _ _ _ _ _ _ _ c.requires.footing_le_at c.requires.placed c.requires.p_bound c.requires.i_in_bounds _ _ c.write_leaf_front-k.ensures in omega (arith, z, c.well_formed.0)

pub put_rest-s-requires : goal.put_rest-s-requires
put_rest-s-requires c = let all = rest_needs _ _ _ _ _ _ _ _ _ c.requires.footing_le_at c.requires.placed c.requires.p_bound c.requires.i_in_bounds _ _ c.write_leaf_front-k.ensures in record {
  footing_le_at = all.0;
  placed = all.1.0;
  p_bound = all.1.1.0;
  i_in_bounds = all.1.1.1;
}

pub put_val-requires : goal.put_val-requires
put_val-requires c = let all = val_needs _ _ _ _ _ _ _ _ _ c.requires.footing_le_at c.requires.placed c.requires.p_bound c.requires.i_in_bounds _ _ c.write_leaf_front-k.ensures _ _ c.put_rest-s.ensures.value c.put_rest-s.ensures.a_after in record {
  footing_le_at = all.0;
  placed = all.1.0;
  i_in_bounds = all.1.1;
}

pub returns : goal.returns
returns c = head_end _ _ _ _ _ _ _ _ _ c.requires.footing_le_at c.requires.placed c.requires.p_bound c.requires.i_in_bounds _ _ c.write_leaf_front-k.ensures _ _ c.put_rest-s.ensures.value c.put_rest-s.ensures.a_after _ c.put_val.ensures
