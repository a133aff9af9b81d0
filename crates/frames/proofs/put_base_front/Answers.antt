-- `frames::put_base_front` meets its contract. Assumes nothing.
use Rattle.numbers.specs.Number.{le}
use Rattle.numbers.proofs.Numbers.{length-le}
use Rattle.frames.specs.Stored.{base_front}
use Rattle.frames.proofs.Stores.{wrote_first, wrote_then}
use Rattle.frames.proofs.put_base_front.Goals as goal

pub returns : goal.returns
unfolding base_front
returns c = let h = c.args.h in
    let w0 = wrote_first {a = c.args.buf.now} {at = c.args.at} (le 4 h.size) 4 c.put_u32.ensures (length-le 4 h.size) in
    let w1 = wrote_then (le 2 h.elems) 2 w0 c.put_u16.ensures (length-le 2 h.elems) in
    let w2 = wrote_then (le 2 h.split_elems) 2 w1 c.put_u16-2.ensures (length-le 2 h.split_elems) in
    let w3 = wrote_then (le 8 h.right_sibling.0) 8 w2 c.put_u64.ensures (length-le 8 h.right_sibling.0) in
    let w4 = wrote_then (le 8 h.merging_child.0) 8 w3 c.put_u64-2.ensures (length-le 8 h.merging_child.0) in
    w4.is
