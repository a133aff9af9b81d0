use Prim.Native.Nat.{◌+◌}
use native.Mathlib.Omega.{arith}
use lib.ListN.{length}
use borrow.Author.Tests.{eqb-true}
use Rattle.order_pair.proofs.Told.{short, long}
use Rattle.order_pair.proofs.pair_of.Goals as goal

pub returns-then-n-lt8 : goal.returns-then-n-lt8
returns-then-n-lt8 c = let g = c.args in
    short g.a.now g.b.now (λ k. omega (arith, c.type_inv.a k)) (λ k. omega (arith, c.type_inv.b k)) (omega arith) _ (omega (arith, c.if-n-lt8.true)) c.word_of.ensures c.word_of-then-n-lt8.ensures

pub returns : goal.returns
returns c = let g = c.args in
    let k = c.spot_of-k.result in
    long g.a.now g.b.now (λ k. omega (arith, c.type_inv.a k)) (λ k. omega (arith, c.type_inv.b k)) (omega arith) _ k (omega arith) c.spot_of-k.ensures.1 c.read_u64_be.ensures c.read_u64_be-2.ensures (λ w. omega (arith, eqb-true (k + 8) (length g.b.now) w))
