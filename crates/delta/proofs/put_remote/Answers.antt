-- `delta::put_remote` meets its contract. Assumes nothing.
use native.Mathlib.Omega.{arith}
use borrow.Author.Tests.{lt-ltb}
use Rattle.spans.proofs.Put.{put_nil}
use Rattle.delta.specs.Deltas.{remote_of}
use Rattle.delta.proofs.Straight.{remote-room, remote-stored}
use Rattle.delta.proofs.put_remote.Goals as goal

pub returns-then-n-m : goal.returns-then-n-m
unfolding remote_of
returns-then-n-m c = simp (lt-ltb _ _ c.if-n-m.true, put_nil)

pub remote_frame-requires : goal.remote_frame-requires
remote_frame-requires c = record {
  footing_le_at = omega arith;
  n_le_max_value = c.requires.v_len_bound;
  n_in_bounds = omega arith;
  n_in_bounds_2 = remote-room c.args.a.now c.args.at c.args.m c.args.v.now c.if-n-m.false c.requires.v_in_bounds;
}

pub returns : goal.returns
returns c = remote-stored c.args.a.now c.args.at c.args.m c.args.v.now c.if-n-m.false _ c.remote_frame.ensures
