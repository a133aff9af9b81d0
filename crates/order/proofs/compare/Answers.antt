use mathlib.Core.Path.{◌≡◌, sym, ap, ap₂, ◌∙◌}
use Prim.Native.Nat.{ℕ, ◌+◌, ◌*◌}
use lib.ListN.{drop}
use native.Mathlib.Omega.{arith}
use Rattle.std.specs.Ordering.{nat_cmp}
use Rattle.order.specs.Order.{cmp_bytes}
use Rattle.order.proofs.Words.{step_differ, step_same}
use Rattle.order.proofs.compare.Goals as goal

pub returns-then-x-y : goal.returns-then-x-y
returns-then-x-y c = let a = c.args in
    c.cmp.ensures
    ∙ ap₂ nat_cmp c.read_u64_be-x.ensures c.read_u64_be-y.ensures
    ∙ step_differ a.a.now a.b.now (λ k. omega (arith, c.type_inv.a k)) (λ k. omega (arith, c.type_inv.b k)) 8 (8 * c.loop-k.k) (omega arith) (omega arith) (λ e. c.if-x-y.true (c.read_u64_be-x.ensures ∙ e ∙ sym c.read_u64_be-y.ensures))
    ∙ sym c.loop-k.invariant

pub loop-k-preserved : goal.loop-k-preserved
loop-k-preserved c = let a = c.args in
    let i : ℕ = 8 * c.loop-k.k in
    let e : i + 8 ≡ 8 * (c.loop-k.k + 1) = omega arith in
    c.loop-k.invariant
    ∙ step_same a.a.now a.b.now (λ k. omega (arith, c.type_inv.a k)) (λ k. omega (arith, c.type_inv.b k)) 8 i (omega arith) (omega arith) (sym c.read_u64_be-x.ensures ∙ c.if-x-y.false ∙ c.read_u64_be-y.ensures)
    ∙ ap (λ (j : ℕ). cmp_bytes (drop j a.a.now) (drop j a.b.now)) e
