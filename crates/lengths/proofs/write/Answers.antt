use mathlib.Core.Path.{refl, sym, ◌∙◌}
use mathlib.Core.Bool.{true}
use Prim.Native.Nat.{◌+◌}
use native.Mathlib.Omega.{arith}
use borrow.Author.Tests.{leb-true, leb-false}
use lib.ListN.{length}
use Rattle.lengths.specs.Leb128.{uleb}
use Rattle.spans.proofs.Put.{stored-room, stored_none}
use Rattle.lengths.proofs.write.Goals as goal

pub returns : goal.returns
returns c = let a = c.args in
    let h = leb-true (a.at + c.size-n.result) (length a.buf.now) (sym c.room.ensures ∙ c.if-not-room.false) in
    stored-room true a.buf.now a.at (uleb a.x) _ _ refl (omega (arith, c.size-n.ensures, h)) (omega (arith, c.store.ensures.0)) c.store.ensures.1

pub returns-then-not-room : goal.returns-then-not-room
returns-then-not-room c = let a = c.args in
    let h = leb-false (a.at + c.size-n.result) (length a.buf.now) (sym c.room.ensures ∙ c.if-not-room.true) in
    stored_none true a.buf.now a.at (uleb a.x) refl (omega (arith, c.size-n.ensures, h))
