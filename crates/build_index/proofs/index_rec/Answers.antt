use native.Mathlib.Omega.{arith}
use Rattle.build_index.proofs.Passes.{len_fits, rest_needs, id-room, id-fits, rec-end}
use Rattle.build_index.proofs.index_rec.Goals as goal

pub overflow_add-at : goal.overflow_add-at
overflow_add-at c = let z = len_fits _ _ _ _ _ _ c.requires.footing_le_at c.requires.placed c.requires.p_bound c.requires.i_in_bounds _ _ c.write-k.ensures in omega (arith, z, c.well_formed.0)

pub put_rest-v-requires : goal.put_rest-v-requires
put_rest-v-requires c = let all = rest_needs _ _ _ _ _ _ c.requires.footing_le_at c.requires.placed c.requires.p_bound c.requires.i_in_bounds _ _ c.write-k.ensures in record {
  footing_le_at = all.0;
  placed = all.1.0;
  p_bound = all.1.1.0;
  i_in_bounds = all.1.1.1;
}

pub put_u64-requires : goal.put_u64-requires
put_u64-requires c = id-room _ _ _ _ _ _ c.requires.footing_le_at c.requires.placed c.requires.p_bound c.requires.i_in_bounds _ _ c.write-k.ensures _ _ c.put_rest-v.ensures.value c.put_rest-v.ensures.a_after

pub overflow_add-result : goal.overflow_add-result
overflow_add-result c = let z = id-fits _ _ _ _ _ _ c.requires.footing_le_at c.requires.placed c.requires.p_bound c.requires.i_in_bounds _ _ c.write-k.ensures _ _ c.put_rest-v.ensures.value c.put_rest-v.ensures.a_after in omega (arith, z, c.well_formed.0)

pub returns : goal.returns
returns c = let all = rec-end _ _ _ _ _ _ c.requires.footing_le_at c.requires.placed c.requires.p_bound c.requires.i_in_bounds _ _ c.write-k.ensures _ _ c.put_rest-v.ensures.value c.put_rest-v.ensures.a_after _ c.put_u64.ensures in record {
  value = all.0;
  a_after = all.1;
}
