use mathlib.Core.Path.{refl, sym, ◌∙◌}
use mathlib.Core.Bool.{true}
use Prim.Native.Nat.{◌+◌}
use native.Mathlib.Omega.{arith}
use borrow.Author.Tests.{leb-true, leb-false}
use lib.Dec.{leb}
use lib.ListN.{length}
use Rattle.spans.proofs.Put.{stored-room, stored_none}
use Rattle.numbers.specs.Number.{le}
use Rattle.values.specs.Keys.{ver_bytes}
use Rattle.values.proofs.Laws.{length-ver}
use Rattle.values.proofs.write_ver.Goals as goal

pub store_ver-requires : goal.store_ver-requires
store_ver-requires c = omega (arith, leb-true (c.args.at + 12) (length c.args.buf.now) (sym c.room.ensures ∙ c.if-room.true))

pub returns-then-room : goal.returns-then-room
returns-then-room c = let a = c.args in
    let l = length-ver a.v in
    let h = leb-true (a.at + 12) (length a.buf.now) (sym c.room.ensures ∙ c.if-room.true) in
    stored-room true a.buf.now a.at (ver_bytes a.v) _ _ refl (omega (arith, l, h)) (sym l) c.store_ver.ensures

pub returns : goal.returns
returns c = let a = c.args in
    let l = length-ver a.v in
    let h = leb-false (a.at + 12) (length a.buf.now) (sym c.room.ensures ∙ c.if-room.false) in
    stored_none true a.buf.now a.at (ver_bytes a.v) refl (omega (arith, l, h))
