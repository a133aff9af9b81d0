-- `build_sweep::sweep_list` meets its contract. Assumes nothing.
use native.Mathlib.Omega.{arith}
use mathlib.Core.Path.{sym, ◌∙◌}
use Prim.Native.Nat.{◌-◌}
use Rattle.build_sweep.proofs.Listing.{list_begin, list_slim, list-end, list_bad, list-many, list-key, list-val, list-fits, list-bounded, list-less, list_falls, list_head, list-old}
use Rattle.build_sweep.proofs.sweep_list.Goals as goal

pub loop-at-init : goal.loop-at-init
loop-at-init c = list_begin _ _ _ _ _

pub returns-in_default : goal.returns-in_default
returns-in_default c = list_bad _ _ _ _ _ _ _ _ _ _ _ c.loop-at.invariant c.requires.next_bound c.loop-at-test.true (sym c.in_default.is ∙ c.ent_at.ensures)

pub overflow_add-t : goal.overflow_add-t
overflow_add-t c = omega (arith, c.loop-at.invariant.few)

pub returns-then-t-ge-MAX_ENTRIES : goal.returns-then-t-ge-MAX_ENTRIES
returns-then-t-ge-MAX_ENTRIES c = list-many _ _ _ _ _ _ _ _ _ _ _ c.loop-at.invariant c.requires.next_bound c.loop-at-test.true _ _ (sym c.in-Some.is ∙ c.ent_at.ensures) c.if-t-ge-MAX_ENTRIES.true

pub overflow_add-here : goal.overflow_add-here
overflow_add-here c = let z = list-fits _ _ _ _ _ _ _ _ _ _ _ c.loop-at.invariant c.requires.next_bound c.loop-at-test.true _ _ (sym c.in-Some.is ∙ c.ent_at.ensures) in omega (arith, z)

pub overflow_add-past : goal.overflow_add-past
overflow_add-past c = let z = list-fits _ _ _ _ _ _ _ _ _ _ _ c.loop-at.invariant c.requires.next_bound c.loop-at-test.true _ _ (sym c.in-Some.is ∙ c.ent_at.ensures) in omega (arith, z)

pub overflow_add-past-in-loop-at : goal.overflow_add-past-in-loop-at
overflow_add-past-in-loop-at c = let z = list-fits _ _ _ _ _ _ _ _ _ _ _ c.loop-at.invariant c.requires.next_bound c.loop-at-test.true _ _ (sym c.in-Some.is ∙ c.ent_at.ensures) in omega (arith, z)

pub overflow_add-past-in-loop-at-2 : goal.overflow_add-past-in-loop-at-2
overflow_add-past-in-loop-at-2 c = let z = list-fits _ _ _ _ _ _ _ _ _ _ _ c.loop-at.invariant c.requires.next_bound c.loop-at-test.true _ _ (sym c.in-Some.is ∙ c.ent_at.ensures) in omega (arith, z)

pub way_at-requires : goal.way_at-requires
way_at-requires c = let z = list-fits _ _ _ _ _ _ _ _ _ _ _ c.loop-at.invariant c.requires.next_bound c.loop-at-test.true _ _ (sym c.in-Some.is ∙ c.ent_at.ensures) in (omega (arith, c.loop-at.invariant.behind, z), omega (arith, z))

pub with_head-t-requires : goal.with_head-t-requires
with_head-t-requires c = record {
  n_le_max_value = list-val _ _ _ _ _ _ _ _ _ _ _ c.loop-at.invariant c.requires.next_bound c.loop-at-test.true _ _ (sym c.in-Some.is ∙ c.ent_at.ensures);
  k_le_max_key = list-key _ _ _ _ _ _ _ _ _ _ _ c.loop-at.invariant c.requires.next_bound c.loop-at-test.true _ _ (sym c.in-Some.is ∙ c.ent_at.ensures);
  bounded = list-bounded _ _ _ _ _ _ _ _ _ _ _ c.loop-at.invariant c.requires.next_bound c.loop-at-test.true _ _ (sym c.in-Some.is ∙ c.ent_at.ensures);
}

pub loop-at-smaller-in-Head : goal.loop-at-smaller-in-Head
loop-at-smaller-in-Head c = list-less _ _ _ _ _ _ _ _ _ _ _ c.loop-at.invariant c.requires.next_bound c.loop-at-test.true _ _ (sym c.in-Some.is ∙ c.ent_at.ensures)

pub loop-at-preserved-in-Head : goal.loop-at-preserved-in-Head
loop-at-preserved-in-Head c = list_head _ _ _ _ _ _ _ _ _ _ _ c.loop-at.invariant c.requires.next_bound c.loop-at-test.true _ _ (sym c.in-Some.is ∙ c.ent_at.ensures) _ c.way_at.ensures c.if-t-ge-MAX_ENTRIES.false c.in-Head.is _ c.with_head-t.ensures

pub with_cut-g-requires : goal.with_cut-g-requires
with_cut-g-requires c = record {
  limit_le_max_limit = (c.requires.limit_le_max_limit.0, list-val _ _ _ _ _ _ _ _ _ _ _ c.loop-at.invariant c.requires.next_bound c.loop-at-test.true _ _ (sym c.in-Some.is ∙ c.ent_at.ensures));
  slim = list_slim _ _ _ _ _ _ _ _ _ _ _ c.loop-at.invariant c.requires.next_bound;
}

pub with_old-t-requires : goal.with_old-t-requires
with_old-t-requires c = record {
  n_le_max_value = list-val _ _ _ _ _ _ _ _ _ _ _ c.loop-at.invariant c.requires.next_bound c.loop-at-test.true _ _ (sym c.in-Some.is ∙ c.ent_at.ensures);
  bounded = list-bounded _ _ _ _ _ _ _ _ _ _ _ c.loop-at.invariant c.requires.next_bound c.loop-at-test.true _ _ (sym c.in-Some.is ∙ c.ent_at.ensures);
}

pub loop-at-smaller : goal.loop-at-smaller
loop-at-smaller c = list-less _ _ _ _ _ _ _ _ _ _ _ c.loop-at.invariant c.requires.next_bound c.loop-at-test.true _ _ (sym c.in-Some.is ∙ c.ent_at.ensures)

pub loop-at-preserved : goal.loop-at-preserved
loop-at-preserved c = list-old _ _ _ _ _ _ _ _ _ _ _ c.loop-at.invariant c.requires.next_bound c.loop-at-test.true _ _ (sym c.in-Some.is ∙ c.ent_at.ensures) _ c.way_at.ensures c.if-t-ge-MAX_ENTRIES.false c.in-Old.is c.requires.limit_le_max_limit.0 c.requires.limit_le_max_limit.1 _ c.with_old-t.ensures _ c.with_cut-g.ensures

pub returns-in-Falls : goal.returns-in-Falls
returns-in-Falls c = list_falls _ _ _ _ _ _ _ _ _ _ _ c.loop-at.invariant c.requires.next_bound c.loop-at-test.true _ _ (sym c.in-Some.is ∙ c.ent_at.ensures) _ c.way_at.ensures c.in-Falls.is

pub closed-requires : goal.closed-requires
closed-requires c = list_slim _ _ _ _ _ _ _ _ _ _ _ c.loop-at.invariant c.requires.next_bound

pub returns : goal.returns
returns c = list-end _ _ _ _ _ _ _ _ _ _ _ c.loop-at.invariant c.requires.next_bound c.loop-at-test.false _ c.closed.ensures
