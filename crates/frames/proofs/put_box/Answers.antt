-- `frames::put_box` meets its contract. Assumes nothing.
use Rattle.numbers.specs.Number.{le}
use Rattle.numbers.proofs.Numbers.{length-le}
use Rattle.frames.specs.Stored.{box_bytes}
use Rattle.frames.proofs.Stores.{wrote_first, wrote_then}
use Rattle.frames.proofs.put_box.Goals as goal

pub returns : goal.returns
unfolding box_bytes
returns c = let h = c.args.h in
    let w0 = wrote_first {a = c.args.buf.now} {at = c.args.at} (le 4 h.payload_size) 4 c.put_u32.ensures (length-le 4 h.payload_size) in
    let w1 = wrote_then (le 1 h.box_kind) 1 w0 c.put_u8.ensures (length-le 1 h.box_kind) in
    let w2 = wrote_then (le 1 h.node_type) 1 w1 c.put_u8-2.ensures (length-le 1 h.node_type) in
    let w3 = wrote_then (le 1 h.flag) 1 w2 c.put_u8-3.ensures (length-le 1 h.flag) in
    let w4 = wrote_then (le 1 h.group) 1 w3 c.put_u8-4.ensures (length-le 1 h.group) in
    let w5 = wrote_then (le 8 h.link.0) 8 w4 c.put_u64.ensures (length-le 8 h.link.0) in
    let w6 = wrote_then (le 8 h.txid) 8 w5 c.put_u64-2.ensures (length-le 8 h.txid) in
    let w7 = wrote_then (le 8 h.lsn) 8 w6 c.put_u64-3.ensures (length-le 8 h.lsn) in
    w7.is
