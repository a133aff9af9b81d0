-- `frames::put_base` meets its contract. Assumes nothing.
use Rattle.frames.specs.Stored.{base_front, base_back, base_bytes}
use Rattle.frames.proofs.Stores.{length_front, length_back, wrote_first, wrote_then}
use Rattle.frames.proofs.put_base.Goals as goal

pub returns : goal.returns
unfolding base_bytes
returns c = let h = c.args.h in
    let w = wrote_first {a = c.args.buf.now} {at = c.args.at} (base_front h) 24 c.put_base_front.ensures (length_front h) in
    (wrote_then (base_back h) 16 w c.put_base_back.ensures (length_back h)).is
