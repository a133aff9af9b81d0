use mathlib.Core.Path.{sym, ◌∙◌}
use mathlib.Core.Bool.{true}
use Prim.Native.Nat.{◌+◌}
use native.Mathlib.Omega.{arith}
use borrow.Author.Tests.{leb-true, leb-false, le-leb, lt-leb}
use lib.Dec.{leb}
use lib.ListN.{length}
use Rattle.spans.proofs.Put.{stored-room, stored_none, stored_not}
use Rattle.frames.specs.Limits.{max_value}
use Rattle.numbers.specs.Number.{le}
use mathlib.Core.Bool.{false}
use Rattle.values.specs.Vals.{front_bytes, front_size}
use Rattle.values.proofs.Laws.{length_front}
use Rattle.values.proofs.Val.write_front.Goals as goal

pub returns-then-n-gt-MAX_VALUE : goal.returns-then-n-gt-MAX_VALUE
returns-then-n-gt-MAX_VALUE c = let a = c.args in
    stored_not (leb a.n max_value) a.buf.now a.at (front_bytes a.h a.remote a.n) (lt-leb a.n max_value c.if-n-gt-MAX_VALUE.true)

pub store_front-requires : goal.store_front-requires
store_front-requires c = let a = c.args in
    let h = leb-true (a.at + c.front_size-k.result) (length a.buf.now) (sym c.room.ensures ∙ c.if-room.true) in
    omega (arith, h, c.front_size-k.ensures, length_front a.h a.remote a.n)

pub returns-then-room : goal.returns-then-room
returns-then-room c = let a = c.args in
    let h = leb-true (a.at + c.front_size-k.result) (length a.buf.now) (sym c.room.ensures ∙ c.if-room.true) in
    stored-room (leb a.n max_value) a.buf.now a.at (front_bytes a.h a.remote a.n) _ _ (le-leb a.n max_value c.if-n-gt-MAX_VALUE.false) (omega (arith, h, c.front_size-k.ensures, length_front a.h a.remote a.n)) (omega (arith, c.store_front.ensures.0)) c.store_front.ensures.1

pub returns : goal.returns
returns c = let a = c.args in
    let h = leb-false (a.at + c.front_size-k.result) (length a.buf.now) (sym c.room.ensures ∙ c.if-room.false) in
    stored_none (leb a.n max_value) a.buf.now a.at (front_bytes a.h a.remote a.n) (le-leb a.n max_value c.if-n-gt-MAX_VALUE.false) (omega (arith, h, c.front_size-k.ensures, length_front a.h a.remote a.n))
