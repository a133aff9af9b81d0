use mathlib.Core.Path.{refl, sym, ◌∙◌, ap}
use mathlib.Core.Bool.{true}
use Prim.Native.Nat.{ℕ, ◌+◌}
use native.Mathlib.Omega.{arith}
use borrow.Author.Tests.{leb-true, leb-false, le-leb, lt-leb}
use lib.Dec.{leb}
use lib.ListN.{length}
use Rattle.spans.specs.Span.{put}
use Rattle.spans.proofs.Put.{stored-room, stored_none, stored_not, stored-count, stored_bytes, put_chain}
use Rattle.lengths.specs.Leb128.{uleb}
use Rattle.lengths.proofs.Laws.{uleb-few as leb_few}
use Rattle.numbers.specs.Number.{le}
use Rattle.values.specs.Keys.{index_key}
use Rattle.values.proofs.Laws.{length-index_key}
use Rattle.frames.specs.Limits.{max_key}
use Rattle.values.proofs.write_index_key.Goals as goal

pub returns-then-n-gt-MAX_KEY : goal.returns-then-n-gt-MAX_KEY
returns-then-n-gt-MAX_KEY c = let a = c.args in
    stored_not (leb (length a.rest.now) max_key) a.buf.now a.at (index_key a.rest.now) (lt-leb (length a.rest.now) max_key c.if-n-gt-MAX_KEY.true)

pub overflow_add-k : goal.overflow_add-k
overflow_add-k c = omega (arith, c.size.ensures, leb_few (length c.args.rest.now))

pub overflow_add-p : goal.overflow_add-p
overflow_add-p c = let a = c.args in
    let r = a.rest.now in
    let h = leb-true (a.at + (c.size.result + length r)) (length a.buf.now) (sym c.room.ensures ∙ c.if-room.true) in
    omega (arith, h, c.size.ensures, stored-count true a.buf.now a.at (uleb (length r)) _ _ c.write.ensures refl (omega (arith, h, c.size.ensures)))

pub copy-requires : goal.copy-requires
copy-requires c = let a = c.args in
    let r = a.rest.now in
    let h = leb-true (a.at + (c.size.result + length r)) (length a.buf.now) (sym c.room.ensures ∙ c.if-room.true) in
    omega (arith, h, c.size.ensures, c.write.auto.buf, stored-count true a.buf.now a.at (uleb (length r)) _ _ c.write.ensures refl (omega (arith, h, c.size.ensures)))

pub returns-then-room : goal.returns-then-room
unfolding index_key
returns-then-room c = let a = c.args in
    let r = a.rest.now in
    let h = leb-true (a.at + (c.size.result + length r)) (length a.buf.now) (sym c.room.ensures ∙ c.if-room.true) in
    let k = stored-count true a.buf.now a.at (uleb (length r)) _ _ c.write.ensures refl (omega (arith, h, c.size.ensures)) in
    stored-room (leb (length r) max_key) a.buf.now a.at (index_key r) _ _ (le-leb (length r) max_key c.if-n-gt-MAX_KEY.false) (omega (arith, h, c.size.ensures, length-index_key r)) (omega (arith, c.size.ensures, length-index_key r)) (put_chain a.buf.now a.at (uleb (length r)) r (stored_bytes true a.buf.now a.at (uleb (length r)) _ _ c.write.ensures refl (omega (arith, h, c.size.ensures))) c.copy.ensures (ap (λ (m : ℕ). a.at + m) k))

pub returns : goal.returns
returns c = let a = c.args in
    let r = a.rest.now in
    let h = leb-false (a.at + (c.size.result + length r)) (length a.buf.now) (sym c.room.ensures ∙ c.if-room.false) in
    stored_none (leb (length r) max_key) a.buf.now a.at (index_key r) (le-leb (length r) max_key c.if-n-gt-MAX_KEY.false) (omega (arith, h, c.size.ensures, length-index_key r))
