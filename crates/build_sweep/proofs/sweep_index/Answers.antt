-- `build_sweep::sweep_index` meets its contract. Assumes nothing.
use native.Mathlib.Omega.{arith}
use mathlib.Core.Path.{sym, ◌∙◌}
use Prim.Native.Nat.{◌-◌}
use borrow.Author.Tests.{not-true, not-false}
use Rattle.build_sweep.proofs.Indexing.{index_begin, index_whole, index_bad, index_many, index_key_lem, index_fits, index_less, index_falls, index_small, index_on}
use Rattle.build_sweep.proofs.sweep_index.Goals as goal

pub loop-at-init : goal.loop-at-init
loop-at-init c = index_begin _ _

pub returns-in_default : goal.returns-in_default
returns-in_default c = index_bad _ _ _ _ _ _ _ _ c.loop-at.invariant c.loop-at-test.true (sym c.in_default.is ∙ c.index_ent.ensures)

pub returns-then-n-ge-MAX_ENTRIES : goal.returns-then-n-ge-MAX_ENTRIES
returns-then-n-ge-MAX_ENTRIES c = index_many _ _ _ _ _ _ _ _ c.loop-at.invariant c.loop-at-test.true _ _ (sym c.in-Some.is ∙ c.index_ent.ensures) c.if-n-ge-MAX_ENTRIES.true

pub overflow_add-here : goal.overflow_add-here
overflow_add-here c = let z = index_fits _ _ _ _ _ _ _ _ c.loop-at.invariant c.loop-at-test.true _ _ (sym c.in-Some.is ∙ c.index_ent.ensures) in omega (arith, z)

pub order_at-requires : goal.order_at-requires
order_at-requires c = let z = index_fits _ _ _ _ _ _ _ _ c.loop-at.invariant c.loop-at-test.true _ _ (sym c.in-Some.is ∙ c.index_ent.ensures) in (omega (arith, c.loop-at.invariant.behind, z), omega (arith, z))

pub returns-then-not-is_less : goal.returns-then-not-is_less
returns-then-not-is_less c = index_falls _ _ _ _ _ _ _ _ c.loop-at.invariant c.loop-at-test.true _ _ (sym c.in-Some.is ∙ c.index_ent.ensures) _ c.order_at.ensures _ c.is_less.ensures (c.if-not-is_less.true)

pub overflow_cast-less : goal.overflow_cast-less
overflow_cast-less c = let z = index_key_lem _ _ _ _ _ _ _ _ c.loop-at.invariant c.loop-at-test.true _ _ (sym c.in-Some.is ∙ c.index_ent.ensures) in omega (arith, z, c.less.ensures)

pub overflow_add-sums : goal.overflow_add-sums
overflow_add-sums c = let z = index_small _ _ _ _ _ _ _ _ c.loop-at.invariant c.loop-at-test.true _ _ (sym c.in-Some.is ∙ c.index_ent.ensures) _ c.order_at.ensures _ c.is_less.ensures _ _ c.less.ensures c.index_key_size.ensures in omega (arith, z)

pub overflow_add-sums-in-loop-at : goal.overflow_add-sums-in-loop-at
overflow_add-sums-in-loop-at c = let z = index_small _ _ _ _ _ _ _ _ c.loop-at.invariant c.loop-at-test.true _ _ (sym c.in-Some.is ∙ c.index_ent.ensures) _ c.order_at.ensures _ c.is_less.ensures _ _ c.less.ensures c.index_key_size.ensures in omega (arith, z, c.loop-at.invariant.small, c.loop-at.invariant.few)

pub overflow_add-n : goal.overflow_add-n
overflow_add-n c = omega (arith, c.loop-at.invariant.few)

pub overflow_add-at : goal.overflow_add-at
overflow_add-at c = let z = index_fits _ _ _ _ _ _ _ _ c.loop-at.invariant c.loop-at-test.true _ _ (sym c.in-Some.is ∙ c.index_ent.ensures) in omega (arith, z)

pub overflow_add-at-in-loop-at : goal.overflow_add-at-in-loop-at
overflow_add-at-in-loop-at c = let z = index_fits _ _ _ _ _ _ _ _ c.loop-at.invariant c.loop-at-test.true _ _ (sym c.in-Some.is ∙ c.index_ent.ensures) in omega (arith, z)

pub loop-at-smaller : goal.loop-at-smaller
loop-at-smaller c = index_less _ _ _ _ _ _ _ _ c.loop-at.invariant c.loop-at-test.true _ _ (sym c.in-Some.is ∙ c.index_ent.ensures)

pub loop-at-preserved : goal.loop-at-preserved
loop-at-preserved c = index_on _ _ _ _ _ _ _ _ c.loop-at.invariant c.loop-at-test.true _ _ (sym c.in-Some.is ∙ c.index_ent.ensures) _ c.order_at.ensures _ c.is_less.ensures _ _ c.less.ensures c.index_key_size.ensures (c.if-not-is_less.false) c.if-n-ge-MAX_ENTRIES.false

pub returns : goal.returns
returns c = index_whole _ _ _ _ _ _ _ _ c.loop-at.invariant c.loop-at-test.false
