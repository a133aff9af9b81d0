-- `delta::put_value` meets its contract. Assumes nothing.
use mathlib.Core.Path.{◌≡◌}
use lib.ListN.{length}
use borrow.Author.Tests.{le-leb, le-ltb, lt-ltb}
use Rattle.spans.proofs.Put.{stored_bytes}
use Rattle.values.specs.Vals.{no_hist, inline_bytes, remote_bytes}
use Rattle.delta.specs.Deltas.{value_of}
use Rattle.delta.proofs.put_value.Goals as goal

pub returns-then-n-limit : goal.returns-then-n-limit
unfolding value_of
returns-then-n-limit c = let e : value_of c.args.limit c.args.remote c.args.v.now ≡ inline_bytes no_hist c.args.v.now = simp (lt-ltb (length c.args.v.now) c.args.limit c.if-n-limit.true) in
    rw e (stored_bytes _ _ _ _ _ _ c.encode_inline-i.ensures (le-leb _ _ c.requires.v_len_bound) (rw e at c.requires.v_in_bounds))

pub returns-else-n-limit : goal.returns-else-n-limit
unfolding value_of
returns-else-n-limit c = let e : value_of c.args.limit c.args.remote c.args.v.now ≡ remote_bytes no_hist (length c.args.v.now) c.args.remote = simp (le-ltb (length c.args.v.now) c.args.limit c.if-n-limit.false) in
    rw e (stored_bytes _ _ _ _ _ _ c.encode_remote-r.ensures (le-leb _ _ c.requires.v_len_bound) (rw e at c.requires.v_in_bounds))
