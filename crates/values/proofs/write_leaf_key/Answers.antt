use mathlib.Core.Path.{sym, ◌∙◌}
use mathlib.Core.Bool.{true}
use Prim.Native.Nat.{◌+◌}
use native.Mathlib.Omega.{arith}
use borrow.Author.Tests.{leb-true, leb-false, le-leb, lt-leb}
use lib.Dec.{leb}
use lib.ListN.{length}
use Rattle.spans.specs.Span.{put}
use Rattle.spans.proofs.Put.{stored-room, stored_none, stored_not, put_chain}
use Rattle.lengths.proofs.Laws.{uleb-few as leb_few}
use Rattle.numbers.specs.Number.{le}
use Rattle.values.specs.Keys.{leaf_front, leaf_key}
use Rattle.values.proofs.Laws.{length-leaf_front, length-leaf_key}
use Rattle.frames.specs.Limits.{max_key}
use Rattle.values.proofs.write_leaf_key.Goals as goal

pub returns-then-n-gt-MAX_KEY : goal.returns-then-n-gt-MAX_KEY
returns-then-n-gt-MAX_KEY c = let a = c.args in
    stored_not (leb (length a.rest.now) max_key) a.buf.now a.at (leaf_key a.v a.rest.now) (lt-leb (length a.rest.now) max_key c.if-n-gt-MAX_KEY.true)

pub overflow_add-k : goal.overflow_add-k
overflow_add-k c = omega (arith, c.size.ensures, leb_few (12 + length c.args.rest.now))

pub overflow_add-k-2 : goal.overflow_add-k-2
overflow_add-k-2 c = omega (arith, c.size.ensures, leb_few (12 + length c.args.rest.now))

pub store_leaf_front-p-requires : goal.store_leaf_front-p-requires
store_leaf_front-p-requires c = let a = c.args in
    let h = leb-true (a.at + (c.size.result + 12 + length a.rest.now)) (length a.buf.now) (sym c.room.ensures ∙ c.if-room.true) in
    (omega arith, omega (arith, h, c.size.ensures, length-leaf_front a.v (length a.rest.now)))

pub copy-requires : goal.copy-requires
copy-requires c = let a = c.args in
    let h = leb-true (a.at + (c.size.result + 12 + length a.rest.now)) (length a.buf.now) (sym c.room.ensures ∙ c.if-room.true) in
    omega (arith, h, c.size.ensures, length-leaf_front a.v (length a.rest.now), c.store_leaf_front-p.ensures.0, c.store_leaf_front-p.auto.buf)

pub returns-then-room : goal.returns-then-room
unfolding leaf_key
returns-then-room c = let a = c.args in
    let r = a.rest.now in
    let h = leb-true (a.at + (c.size.result + 12 + length r)) (length a.buf.now) (sym c.room.ensures ∙ c.if-room.true) in
    stored-room (leb (length r) max_key) a.buf.now a.at (leaf_key a.v r) _ _ (le-leb (length r) max_key c.if-n-gt-MAX_KEY.false) (omega (arith, h, c.size.ensures, length-leaf_key a.v r)) (omega (arith, c.size.ensures, length-leaf_key a.v r)) (put_chain a.buf.now a.at (leaf_front a.v (length r)) r c.store_leaf_front-p.ensures.1 c.copy.ensures c.store_leaf_front-p.ensures.0)

pub returns : goal.returns
returns c = let a = c.args in
    let r = a.rest.now in
    let h = leb-false (a.at + (c.size.result + 12 + length r)) (length a.buf.now) (sym c.room.ensures ∙ c.if-room.false) in
    stored_none (leb (length r) max_key) a.buf.now a.at (leaf_key a.v r) (le-leb (length r) max_key c.if-n-gt-MAX_KEY.false) (omega (arith, h, c.size.ensures, length-leaf_key a.v r))
