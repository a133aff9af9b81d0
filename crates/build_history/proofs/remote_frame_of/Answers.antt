use native.Mathlib.Omega.{arith}
use Rattle.build_history.proofs.Passes.{near_ret, kept_ret, remote_asks, remote_fit, remote_ret}
use Rattle.build_history.proofs.remote_frame_of.Goals as goal

pub returns-then-n-m : goal.returns-then-n-m
returns-then-n-m c = let all = near_ret _ _ _ _ c.requires.placed _ _ c.if-n-m.true in record {
  value = all.0;
  a_after = all.1;
}

pub returns-then-i-ne0 : goal.returns-then-i-ne0
returns-then-i-ne0 c = let all = kept_ret _ _ _ _ c.requires.placed _ _ c.if-n-m.false c.if-i-ne0.true in record {
  value = all.0;
  a_after = all.1;
}

pub remote_frame-requires : goal.remote_frame-requires
remote_frame-requires c = record {
  footing_le_at = c.requires.footing_le_at;
  n_le_max_value = (remote_asks _ _ _ _ c.requires.placed c.args.a.now c.args.at c.if-n-m.false c.if-i-ne0.false c.requires.i_in_bounds).0;
  n_in_bounds = (remote_asks _ _ _ _ c.requires.placed c.args.a.now c.args.at c.if-n-m.false c.if-i-ne0.false c.requires.i_in_bounds).1.0;
  n_in_bounds_2 = (remote_asks _ _ _ _ c.requires.placed c.args.a.now c.args.at c.if-n-m.false c.if-i-ne0.false c.requires.i_in_bounds).1.1;
}

pub overflow_add-result : goal.overflow_add-result
overflow_add-result c = let z = remote_fit _ _ c.args.i _ c.requires.placed c.args.a.now c.args.at c.if-n-m.false c.if-i-ne0.false c.requires.i_in_bounds in omega (arith, c.frame_len.ensures)

pub returns : goal.returns
returns c = let all = remote_ret _ _ _ _ c.requires.placed _ _ c.if-n-m.false c.if-i-ne0.false _ _ c.frame_len.ensures c.remote_frame.ensures in record {
  value = all.0;
  a_after = all.1;
}
