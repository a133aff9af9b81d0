-- `build_page_pen::put_value` meets its contract. Assumes nothing.
use native.Mathlib.Omega.{arith}
use Rattle.build_page_pen.proofs.Copying.{near_fits, near_asks, near_done, away_done}
use Rattle.build_page_pen.proofs.put_value.Goals as goal

pub overflow_add-at : goal.overflow_add-at
overflow_add-at c = omega (arith, near_fits _ _ _ _ _ _ c.requires.value_below c.requires.v_in_bounds c.if-v-limit.true _ _ c.write_front-k.ensures, c.well_formed.0)

pub copy_within-requires : goal.copy_within-requires
copy_within-requires c = near_asks _ _ _ _ _ _ c.requires.value_below c.requires.v_in_bounds c.if-v-limit.true _ _ c.write_front-k.ensures

pub overflow_add-result : goal.overflow_add-result
overflow_add-result c = omega (arith, near_fits _ _ _ _ _ _ c.requires.value_below c.requires.v_in_bounds c.if-v-limit.true _ _ c.write_front-k.ensures, c.well_formed.0)

pub returns-then-v-limit : goal.returns-then-v-limit
returns-then-v-limit c = let all = near_done _ _ _ _ _ _ c.requires.value_below c.requires.v_in_bounds c.if-v-limit.true _ _ c.write_front-k.ensures _ c.copy_within.ensures in record {
  value = all.0;
  a_after = all.1;
}

pub returns : goal.returns
returns c = let all = away_done _ _ _ _ _ _ c.requires.value_below c.requires.v_in_bounds c.if-v-limit.false _ _ c.encode_remote.ensures in record {
  value = all.0;
  a_after = all.1;
}
