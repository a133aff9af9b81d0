use mathlib.Core.Path.{refl, ap}
use mathlib.Core.Bool.{true}
use Prim.Native.Nat.{ℕ, ◌+◌}
use native.Mathlib.Omega.{arith}
use lib.Dec.{leb}
use lib.ListN.{length}
use Rattle.spans.specs.Span.{put}
use Rattle.spans.proofs.Put.{stored-count, stored_bytes, put_chain}
use Rattle.lengths.specs.Leb128.{uleb}
use Rattle.numbers.specs.Number.{le}
use Rattle.values.specs.Keys.{ver_bytes, leaf_front}
use Rattle.values.proofs.Laws.{length-leaf_front}
use Rattle.values.proofs.store_leaf_front.Goals as goal

pub overflow_add-p : goal.overflow_add-p
overflow_add-p c = let a = c.args in
    let l = length-leaf_front a.v a.n in
    omega (arith, l, stored-count true a.buf.now a.at (uleb (12 + a.n)) _ _ c.write-k.ensures refl (omega (arith, l)))

pub store_ver-requires : goal.store_ver-requires
store_ver-requires c = let a = c.args in
    let l = length-leaf_front a.v a.n in
    omega (arith, l, c.write-k.auto.buf, stored-count true a.buf.now a.at (uleb (12 + a.n)) _ _ c.write-k.ensures refl (omega (arith, l)))

pub overflow_add-result : goal.overflow_add-result
overflow_add-result c = let a = c.args in
    let l = length-leaf_front a.v a.n in
    omega (arith, l, stored-count true a.buf.now a.at (uleb (12 + a.n)) _ _ c.write-k.ensures refl (omega (arith, l)))

pub returns : goal.returns
unfolding leaf_front
returns c = let a = c.args in
    let l = length-leaf_front a.v a.n in
    let k = stored-count true a.buf.now a.at (uleb (12 + a.n)) _ _ c.write-k.ensures refl (omega (arith, l)) in
    (omega (arith, l, k), put_chain a.buf.now a.at (uleb (12 + a.n)) (ver_bytes a.v) (stored_bytes true a.buf.now a.at (uleb (12 + a.n)) _ _ c.write-k.ensures refl (omega (arith, l))) c.store_ver.ensures (ap (λ (m : ℕ). a.at + m) k))
