use mathlib.Core.Path.{sym, ◌∙◌}
use mathlib.Core.Bool.{true}
use Prim.Native.Nat.{◌+◌}
use native.Mathlib.Omega.{arith}
use borrow.Author.Tests.{leb-true, leb-false, le-leb, lt-leb}
use lib.Dec.{leb}
use lib.ListN.{length}
use Rattle.spans.specs.Span.{put}
use Rattle.spans.proofs.Put.{stored-room, stored_none, stored_not, put_chain}
use Rattle.frames.specs.Limits.{max_value}
use Rattle.numbers.specs.Number.{le}
use mathlib.Core.Bool.{false}
use Rattle.values.specs.Vals.{front_bytes, front_size, inline_bytes}
use Rattle.values.proofs.Laws.{length_front, length_inline, front-small}
use Rattle.values.proofs.Val.encode_inline.Goals as goal

pub returns-then-n-gt-MAX_VALUE : goal.returns-then-n-gt-MAX_VALUE
returns-then-n-gt-MAX_VALUE c = let a = c.args in
    stored_not (leb (length a.v.now) max_value) a.buf.now a.at (inline_bytes a.h a.v.now) (lt-leb (length a.v.now) max_value c.if-n-gt-MAX_VALUE.true)

pub overflow_add-k : goal.overflow_add-k
overflow_add-k c = omega (arith, c.front_size.ensures, front-small c.args.h.count)

pub store_front-p-requires : goal.store_front-p-requires
store_front-p-requires c = let a = c.args in
    let h = leb-true (a.at + (c.front_size.result + length a.v.now)) (length a.buf.now) (sym c.room.ensures ∙ c.if-room.true) in
    omega (arith, h, c.front_size.ensures, length_front a.h false (length a.v.now))

pub copy-requires : goal.copy-requires
copy-requires c = let a = c.args in
    let h = leb-true (a.at + (c.front_size.result + length a.v.now)) (length a.buf.now) (sym c.room.ensures ∙ c.if-room.true) in
    omega (arith, h, c.front_size.ensures, length_front a.h false (length a.v.now), c.store_front-p.ensures.0, c.store_front-p.auto.buf)

pub returns-then-room : goal.returns-then-room
unfolding inline_bytes
returns-then-room c = let a = c.args in
    let v = a.v.now in
    let h = leb-true (a.at + (c.front_size.result + length v)) (length a.buf.now) (sym c.room.ensures ∙ c.if-room.true) in
    stored-room (leb (length v) max_value) a.buf.now a.at (inline_bytes a.h v) _ _ (le-leb (length v) max_value c.if-n-gt-MAX_VALUE.false) (omega (arith, h, c.front_size.ensures, length_inline a.h v)) (omega (arith, c.front_size.ensures, length_inline a.h v)) (put_chain a.buf.now a.at (front_bytes a.h false (length v)) v c.store_front-p.ensures.1 c.copy.ensures c.store_front-p.ensures.0)

pub returns : goal.returns
returns c = let a = c.args in
    let v = a.v.now in
    let h = leb-false (a.at + (c.front_size.result + length v)) (length a.buf.now) (sym c.room.ensures ∙ c.if-room.false) in
    stored_none (leb (length v) max_value) a.buf.now a.at (inline_bytes a.h v) (le-leb (length v) max_value c.if-n-gt-MAX_VALUE.false) (omega (arith, h, c.front_size.ensures, length_inline a.h v))
