use mathlib.Core.Path.{sym, ap₂, ◌∙◌}
use native.Mathlib.Omega.{arith}
use Rattle.std.specs.Ordering.{nat_cmp}
use Rattle.order.proofs.Words.{step_differ, step_same}
use Rattle.order.proofs.by_twos.Goals as goal

pub returns-then-x-y : goal.returns-then-x-y
returns-then-x-y c = let a = c.args in
    c.cmp.ensures
    ∙ ap₂ nat_cmp c.read_u16_be-x.ensures c.read_u16_be-y.ensures
    ∙ step_differ a.a.now a.b.now (λ k. omega (arith, c.type_inv.a k)) (λ k. omega (arith, c.type_inv.b k)) 2 a.from (omega arith) (omega arith) (λ e. c.if-x-y.true (c.read_u16_be-x.ensures ∙ e ∙ sym c.read_u16_be-y.ensures))

pub returns : goal.returns
returns c = let a = c.args in
    c.by_ones-2.ensures
    ∙ sym (step_same a.a.now a.b.now (λ k. omega (arith, c.type_inv.a k)) (λ k. omega (arith, c.type_inv.b k)) 2 a.from (omega arith) (omega arith) (sym c.read_u16_be-x.ensures ∙ c.if-x-y.false ∙ c.read_u16_be-y.ensures))
