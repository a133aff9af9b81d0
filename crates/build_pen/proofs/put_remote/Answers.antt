-- `build_pen::put_remote` meets its contract. Assumes nothing.
use native.Mathlib.Omega.{arith}
use Rattle.build_pen.proofs.WritingList.{none_done, frame-room, frame-end, frame_done}
use Rattle.build_pen.proofs.put_remote.Goals as goal

pub returns-then-n-m : goal.returns-then-n-m
returns-then-n-m c = let all = none_done _ _ c.requires.inside _ _ _ c.if-n-m.true in record {
  value = all.0;
  a_after = all.1;
}

pub remote_frame-requires : goal.remote_frame-requires
remote_frame-requires c = record {
  footing_le_at = omega arith;
  n_le_max_value = c.requires.inside.val;
  n_in_bounds = c.requires.inside.all;
  n_in_bounds_2 = frame-room _ _ c.requires.inside c.args.m c.args.a.now c.args.at c.if-n-m.false c.requires.i_in_bounds;
}

pub overflow_add-result : goal.overflow_add-result
overflow_add-result c = omega (arith, frame-end _ _ c.requires.inside c.args.m c.args.a.now c.args.at c.if-n-m.false c.requires.i_in_bounds, c.frame_len.ensures, c.well_formed.0)

pub returns : goal.returns
returns c = let all = frame_done _ _ c.requires.inside _ _ _ c.if-n-m.false c.requires.i_in_bounds _ c.frame_len.ensures _ c.remote_frame.ensures in record {
  value = all.0;
  a_after = all.1;
}
