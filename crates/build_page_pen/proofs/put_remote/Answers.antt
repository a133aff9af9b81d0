-- `build_page_pen::put_remote` meets its contract. Assumes nothing.
use native.Mathlib.Omega.{arith}
use Rattle.build_page_pen.proofs.Copying.{none_done, kept_done, frame_asks, frame-end, frame_done}
use Rattle.build_page_pen.proofs.put_remote.Goals as goal

pub returns-then-n-m : goal.returns-then-n-m
returns-then-n-m c = let all = none_done _ _ _ _ _ c.requires.value_below c.requires.next_le_at c.requires.remote_in_bounds c.if-n-m.true in record {
  value = all.0;
  a_after = all.1;
}

pub returns-then-v-ne0 : goal.returns-then-v-ne0
returns-then-v-ne0 c = let all = kept_done _ _ _ _ _ c.requires.value_below c.requires.next_le_at c.requires.remote_in_bounds c.if-n-m.false c.if-v-ne0.true in record {
  value = all.0;
  a_after = all.1;
}

pub remote_frame-requires : goal.remote_frame-requires
remote_frame-requires c = let all = frame_asks _ _ _ _ _ c.requires.value_below c.requires.next_le_at c.requires.remote_in_bounds c.if-n-m.false c.if-v-ne0.false in record {
  footing_le_at = all.0;
  n_le_max_value = all.1.0;
  n_in_bounds = all.1.1.0;
  n_in_bounds_2 = all.1.1.1;
}

pub overflow_add-result : goal.overflow_add-result
overflow_add-result c = omega (arith, frame-end _ _ _ _ _ c.requires.value_below c.requires.next_le_at c.requires.remote_in_bounds c.if-n-m.false c.if-v-ne0.false, c.frame_len.ensures, c.well_formed.0)

pub returns : goal.returns
returns c = let all = frame_done _ _ _ _ _ c.requires.value_below c.requires.next_le_at c.requires.remote_in_bounds c.if-n-m.false c.if-v-ne0.false _ c.frame_len.ensures _ c.remote_frame.ensures in record {
  value = all.0;
  a_after = all.1;
}
