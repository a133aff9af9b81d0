-- `frames::put_base_back` meets its contract. Assumes nothing.
use Rattle.numbers.specs.Number.{le}
use Rattle.numbers.proofs.Numbers.{length-le}
use Rattle.frames.specs.Stored.{base_back}
use Rattle.frames.proofs.Stores.{wrote_first, wrote_then}
use Rattle.frames.proofs.put_base_back.Goals as goal

pub returns : goal.returns
unfolding base_back
returns c = let h = c.args.h in
    let w0 = wrote_first {a = c.args.buf.now} {at = c.args.at} (le 4 h.lo_len) 4 c.put_u32.ensures (length-le 4 h.lo_len) in
    let w1 = wrote_then (le 4 h.hi_len) 4 w0 c.put_u32-2.ensures (length-le 4 h.hi_len) in
    let w2 = wrote_then (le 4 h.prefix_len) 4 w1 c.put_u32-3.ensures (length-le 4 h.prefix_len) in
    let w3 = wrote_then (le 1 h.merging) 1 w2 c.put_u8.ensures (length-le 1 h.merging) in
    let w4 = wrote_then (le 1 h.is_index) 1 w3 c.put_u8-2.ensures (length-le 1 h.is_index) in
    let w5 = wrote_then (le 1 h.has_multiple_versions) 1 w4 c.put_u8-3.ensures (length-le 1 h.has_multiple_versions) in
    let w6 = wrote_then (le 1 h.padding) 1 w5 c.put_u8-4.ensures (length-le 1 h.padding) in
    w6.is
