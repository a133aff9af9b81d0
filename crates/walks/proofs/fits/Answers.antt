-- `walks::fits` meets its contract. Assumes nothing.
use native.Mathlib.Omega.{arith}
use mathlib.Core.Path.{sym, ◌∙◌}
use Rattle.walks.proofs.Lying.{sum_is, fits_off, rising-at, fits_by, fits_no}
use Rattle.walks.proofs.fits.Goals as goal

pub overflow_sub-room : goal.overflow_sub-room
overflow_sub-room c = rising-at c.args.len c.args.v c.if-within.true

pub returns-then-room-v : goal.returns-then-room-v
returns-then-room-v c = let h = rising-at c.args.len c.args.v c.if-within.true in
    sym (fits_no c.args.len c.args.v c.if-within.true (omega arith))

pub returns-then-rest-lt-HDR_LEN : goal.returns-then-rest-lt-HDR_LEN
returns-then-rest-lt-HDR_LEN c = let h = rising-at c.args.len c.args.v c.if-within.true in
    sym (fits_no c.args.len c.args.v c.if-within.true (omega arith))

pub returns-then-within : goal.returns-then-within
returns-then-within c = sum_is c.args.v.at c.args.v.elems c.args.v.front c.args.v.end (rising-at c.args.len c.args.v c.if-within.true) c.if-room-v.false c.if-rest-lt-HDR_LEN.false ∙ sym (fits_by c.args.len c.args.v c.if-within.true)

pub returns : goal.returns
returns c = sym (fits_off c.args.len c.args.v c.if-within.false)
