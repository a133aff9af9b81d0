use mathlib.Core.Path.{sym, ap₂, ◌∙◌}
use native.Mathlib.Omega.{arith}
use Rattle.std.specs.Ordering.{nat_cmp}
use Rattle.order.proofs.Words.{step_differ, step_same}
use Rattle.order.proofs.by_fours.Goals as goal

pub returns-then-x-y : goal.returns-then-x-y
returns-then-x-y c = let a = c.args in
    c.cmp.ensures
    ∙ ap₂ nat_cmp c.read_u32_be-x.ensures c.read_u32_be-y.ensures
    ∙ step_differ a.a.now a.b.now (λ k. omega (arith, c.type_inv.a k)) (λ k. omega (arith, c.type_inv.b k)) 4 a.from (omega arith) (omega arith) (λ e. c.if-x-y.true (c.read_u32_be-x.ensures ∙ e ∙ sym c.read_u32_be-y.ensures))

pub returns : goal.returns
returns c = let a = c.args in
    c.by_twos-2.ensures
    ∙ sym (step_same a.a.now a.b.now (λ k. omega (arith, c.type_inv.a k)) (λ k. omega (arith, c.type_inv.b k)) 4 a.from (omega arith) (omega arith) (sym c.read_u32_be-x.ensures ∙ c.if-x-y.false ∙ c.read_u32_be-y.ensures))
