use mathlib.Core.Path.{sym, ◌∙◌}
use mathlib.Core.Bool.{true}
use Prim.Native.Nat.{◌+◌}
use native.Mathlib.Omega.{arith}
use borrow.Author.Tests.{leb-true, leb-false, le-leb, lt-leb}
use lib.Dec.{leb}
use lib.ListN.{length}
use Rattle.spans.specs.Span.{put}
use Rattle.spans.proofs.Put.{stored-room, stored_none, stored_not, put_chain}
use Rattle.frames.specs.Limits.{max_value}
use Rattle.numbers.specs.Number.{le}
use mathlib.Core.Bool.{false}
use Rattle.values.specs.Vals.{front_bytes, front_size, remote_bytes}
use Rattle.values.proofs.Laws.{length_front, length-remote, front-small}
use Rattle.values.proofs.Val.encode_remote.Goals as goal

pub returns-then-n-gt-MAX_VALUE : goal.returns-then-n-gt-MAX_VALUE
returns-then-n-gt-MAX_VALUE c = let a = c.args in
    stored_not (leb a.n max_value) a.buf.now a.at (remote_bytes a.h a.n a.a.0) (lt-leb a.n max_value c.if-n-gt-MAX_VALUE.true)

pub overflow_add-k : goal.overflow_add-k
overflow_add-k c = omega (arith, c.front_size-k.ensures, front-small c.args.h.count)

pub store_front-p-requires : goal.store_front-p-requires
store_front-p-requires c = let a = c.args in
    let h = leb-true (a.at + (c.front_size-k.result + 8)) (length a.buf.now) (sym c.room.ensures ∙ c.if-room.true) in
    omega (arith, h, c.front_size-k.ensures, length_front a.h true a.n)

pub put_u64-requires : goal.put_u64-requires
put_u64-requires c = let a = c.args in
    let h = leb-true (a.at + (c.front_size-k.result + 8)) (length a.buf.now) (sym c.room.ensures ∙ c.if-room.true) in
    omega (arith, h, c.front_size-k.ensures, length_front a.h true a.n, c.store_front-p.ensures.0, c.store_front-p.auto.buf)

pub returns-then-room : goal.returns-then-room
unfolding remote_bytes
returns-then-room c = let a = c.args in
    let h = leb-true (a.at + (c.front_size-k.result + 8)) (length a.buf.now) (sym c.room.ensures ∙ c.if-room.true) in
    stored-room (leb a.n max_value) a.buf.now a.at (remote_bytes a.h a.n a.a.0) _ _ (le-leb a.n max_value c.if-n-gt-MAX_VALUE.false) (omega (arith, h, c.front_size-k.ensures, length-remote a.h a.n a.a.0)) (omega (arith, c.front_size-k.ensures, length-remote a.h a.n a.a.0)) (put_chain a.buf.now a.at (front_bytes a.h true a.n) (le 8 a.a.0) c.store_front-p.ensures.1 c.put_u64.ensures c.store_front-p.ensures.0)

pub returns : goal.returns
returns c = let a = c.args in
    let h = leb-false (a.at + (c.front_size-k.result + 8)) (length a.buf.now) (sym c.room.ensures ∙ c.if-room.false) in
    stored_none (leb a.n max_value) a.buf.now a.at (remote_bytes a.h a.n a.a.0) (le-leb a.n max_value c.if-n-gt-MAX_VALUE.false) (omega (arith, h, c.front_size-k.ensures, length-remote a.h a.n a.a.0))
