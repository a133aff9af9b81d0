use native.Mathlib.Omega.{arith}
use Rattle.build_heads.proofs.Rests.{footing-short, back_asks, back_end, front_asks, rest_asks, rest-fits, both_end}
use Rattle.build_heads.proofs.put_rest.Goals as goal

pub overflow_add-i : goal.overflow_add-i
overflow_add-i c = let z = back_asks _ _ _ _ _ _ c.requires.footing_le_at c.requires.placed c.requires.p_bound c.requires.i_in_bounds c.if-n-p.true in let r = c.requires.placed.rest in omega (arith, c.well_formed.0, c.well_formed.1.1.0, footing-short c.args.list.now c.args.a.now c.args.footing c.args.i.footing)

pub copy_part-requires : goal.copy_part-requires
copy_part-requires c = let all = back_asks _ _ _ _ _ _ c.requires.footing_le_at c.requires.placed c.requires.p_bound c.requires.i_in_bounds c.if-n-p.true in record {
  footing_le_at = all.0;
  n_in_bounds = all.1.0;
  n_in_bounds_2 = all.1.1;
}

pub returns-then-n-p : goal.returns-then-n-p
returns-then-n-p c = let all = back_end _ _ _ _ _ _ c.requires.footing_le_at c.requires.placed c.requires.p_bound c.requires.i_in_bounds c.if-n-p.true _ c.copy_part.ensures in record {
  value = all.0;
  a_after = all.1;
}

pub overflow_add-i-2 : goal.overflow_add-i-2
overflow_add-i-2 c = let r = c.requires.placed.pre in omega (arith, c.well_formed.0, c.well_formed.1.1.0, footing-short c.args.list.now c.args.a.now c.args.footing c.args.i.footing)

pub copy_part-requires-2 : goal.copy_part-requires-2
copy_part-requires-2 c = let all = front_asks _ _ _ _ _ _ c.requires.footing_le_at c.requires.placed c.requires.p_bound c.requires.i_in_bounds c.if-n-p.false in record {
  footing_le_at = all.0;
  n_in_bounds = all.1.0;
  n_in_bounds_2 = all.1.1;
}

pub overflow_add-v : goal.overflow_add-v
overflow_add-v c = let z = front_asks _ _ _ _ _ _ c.requires.footing_le_at c.requires.placed c.requires.p_bound c.requires.i_in_bounds c.if-n-p.false in omega (arith, z.1.0, c.well_formed.0)

pub copy_part-requires-3 : goal.copy_part-requires-3
copy_part-requires-3 c = let all = rest_asks _ _ _ _ _ _ c.requires.footing_le_at c.requires.placed c.requires.p_bound c.requires.i_in_bounds c.if-n-p.false _ c.copy_part-2.ensures in record {
  footing_le_at = all.0;
  n_in_bounds = all.1.0;
  n_in_bounds_2 = all.1.1;
}

pub overflow_add-result-2 : goal.overflow_add-result-2
overflow_add-result-2 c = let z = rest-fits _ _ _ _ _ _ c.requires.footing_le_at c.requires.placed c.requires.p_bound c.requires.i_in_bounds c.if-n-p.false _ c.copy_part-2.ensures in omega (arith, z, c.well_formed.0)

pub returns : goal.returns
returns c = let all = both_end _ _ _ _ _ _ c.requires.footing_le_at c.requires.placed c.requires.p_bound c.requires.i_in_bounds c.if-n-p.false _ c.copy_part-2.ensures _ c.copy_part-3.ensures in record {
  value = all.0;
  a_after = all.1;
}
