use mathlib.Core.Path.{sym, ◌∙◌}
use mathlib.Core.Bool.{true}
use Prim.Native.Nat.{◌+◌}
use native.Mathlib.Omega.{arith}
use borrow.Author.Tests.{leb-true, leb-false, le-leb, lt-leb}
use lib.Dec.{leb}
use lib.ListN.{length}
use Rattle.spans.proofs.Put.{stored-room, stored_none, stored_not}
use Rattle.lengths.proofs.Laws.{uleb-few as leb_few}
use Rattle.numbers.specs.Number.{le}
use Rattle.values.specs.Keys.{leaf_front}
use Rattle.values.proofs.Laws.{length-leaf_front}
use Rattle.frames.specs.Limits.{max_key}
use Rattle.values.proofs.write_leaf_front.Goals as goal

pub returns-then-n-gt-MAX_KEY : goal.returns-then-n-gt-MAX_KEY
returns-then-n-gt-MAX_KEY c = let a = c.args in
    stored_not (leb a.n max_key) a.buf.now a.at (leaf_front a.v a.n) (lt-leb a.n max_key c.if-n-gt-MAX_KEY.true)

pub overflow_add-k : goal.overflow_add-k
overflow_add-k c = omega (arith, c.size-k.ensures, leb_few (12 + c.args.n))

pub store_leaf_front-requires : goal.store_leaf_front-requires
store_leaf_front-requires c = let a = c.args in
    let h = leb-true (a.at + (c.size-k.result + 12)) (length a.buf.now) (sym c.room.ensures ∙ c.if-room.true) in
    (omega arith, omega (arith, h, c.size-k.ensures, length-leaf_front a.v a.n))

pub returns-then-room : goal.returns-then-room
returns-then-room c = let a = c.args in
    let h = leb-true (a.at + (c.size-k.result + 12)) (length a.buf.now) (sym c.room.ensures ∙ c.if-room.true) in
    stored-room (leb a.n max_key) a.buf.now a.at (leaf_front a.v a.n) _ _ (le-leb a.n max_key c.if-n-gt-MAX_KEY.false) (omega (arith, h, c.size-k.ensures, length-leaf_front a.v a.n)) (omega (arith, c.store_leaf_front.ensures.0)) c.store_leaf_front.ensures.1

pub returns : goal.returns
returns c = let a = c.args in
    let h = leb-false (a.at + (c.size-k.result + 12)) (length a.buf.now) (sym c.room.ensures ∙ c.if-room.false) in
    stored_none (leb a.n max_key) a.buf.now a.at (leaf_front a.v a.n) (le-leb a.n max_key c.if-n-gt-MAX_KEY.false) (omega (arith, h, c.size-k.ensures, length-leaf_front a.v a.n))
