use Prim.Native.Nat.{ℕ, ◌*◌, ◌+◌}
use mathlib.Core.Path.{◌≡◌, sym, ap, ◌∙◌}
use lib.ListN.{take}
use native.Mathlib.Omega.{arith}
use Rattle.order_pair.proofs.Overlap.{further}
use Rattle.order_pair.proofs.pairs.Goals as goal

pub loop-k-preserved : goal.loop-k-preserved
loop-k-preserved c = let a = c.args.a.now in
    let b = c.args.b.now in
    let i : ℕ = 16 * c.loop-k.k in
    let e : 16 * (c.loop-k.k + 1) ≡ i + 8 + 8 = omega arith in
    ap (λ (k : ℕ). take k a) e
    ∙ further a b (λ k. omega (arith, c.type_inv.a k)) (λ k. omega (arith, c.type_inv.b k)) 8 (i + 8) (omega arith) (omega arith) (further a b (λ k. omega (arith, c.type_inv.a k)) (λ k. omega (arith, c.type_inv.b k)) 8 i (omega arith) (omega arith) c.loop-k.invariant (omega arith)) (omega arith)
    ∙ sym (ap (λ (k : ℕ). take k b) e)
