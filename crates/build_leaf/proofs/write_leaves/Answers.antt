-- `build_leaf::write_leaves` meets its contract. Assumes nothing.
use mathlib.Core.Path.{refl}
use mathlib.Core.List.{◌++◌}
use Prim.Native.Nat.{◌-◌}
use native.Mathlib.Omega.{arith}
use lib.ListN.{take}
use Rattle.law_rows.specs.Rows.{leaf_entries}
use Rattle.build_leaf.proofs.Listed.{fixes, tail_fits, leaf_done}
use Rattle.build_leaf.proofs.Leaves.{still_judged, leaves_asks, leaves-end, leaves-drawn}
use Rattle.build_leaf.proofs.write_leaves.Goals as goal

pub leaf_open-o-requires : goal.leaf_open-o-requires
leaf_open-o-requires c = record {
  fixes = fixes (leaf_entries (take c.args.footing c.args.a.now) c.args.b (c.args.end - c.args.from) c.args.from ++ leaf_entries (take c.args.footing c.args.a.now) c.args.d c.args.n 0) c.args.a.now c.args.footing c.args.at c.args.m c.args.t c.args.none.now c.args.none.now c.args.e c.requires.footing_le_at c.requires.small c.requires.both_within c.requires.long c.requires.n_len_bound c.requires.t_value c.requires.end_in_bounds _ refl;
  both_within = c.requires.both_within;
}

pub overflow_add-base : goal.overflow_add-base
overflow_add-base c = let f = fixes (leaf_entries (take c.args.footing c.args.a.now) c.args.b (c.args.end - c.args.from) c.args.from ++ leaf_entries (take c.args.footing c.args.a.now) c.args.d c.args.n 0) c.args.a.now c.args.footing c.args.at c.args.m c.args.t c.args.none.now c.args.none.now c.args.e c.requires.footing_le_at c.requires.small c.requires.both_within c.requires.long c.requires.n_len_bound c.requires.t_value c.requires.end_in_bounds _ refl in omega (arith, f.inside, f.end, c.well_formed.0)

pub pen_leaves-z-requires : goal.pen_leaves-z-requires
pen_leaves-z-requires c = record {
  sane = c.requires.sane;
  judged = (still_judged c.args.b c.args.from c.args.end c.args.d c.args.n c.args.a.now c.args.footing c.args.at c.args.m c.args.t c.args.none.now c.args.none.now c.args.e c.requires.footing_le_at c.requires.small c.requires.both_within c.requires.long c.requires.n_len_bound c.requires.t_value c.requires.end_in_bounds _ refl _ refl _ c.leaf_open-o.ensures.a_after c.args.b c.requires.judged.0, still_judged c.args.b c.args.from c.args.end c.args.d c.args.n c.args.a.now c.args.footing c.args.at c.args.m c.args.t c.args.none.now c.args.none.now c.args.e c.requires.footing_le_at c.requires.small c.requires.both_within c.requires.long c.requires.n_len_bound c.requires.t_value c.requires.end_in_bounds _ refl _ refl _ c.leaf_open-o.ensures.a_after c.args.d c.requires.judged.1);
  end_le_elems = c.requires.end_le_elems;
  all_laid = leaves_asks c.args.b c.args.from c.args.end c.args.d c.args.n c.args.a.now c.args.footing c.args.at c.args.m c.args.t c.args.none.now c.args.none.now c.args.e c.requires.footing_le_at c.requires.small c.requires.both_within c.requires.long c.requires.n_len_bound c.requires.t_value c.requires.end_in_bounds _ refl _ refl _ c.leaf_open-o.ensures.a_after _ c.leaf_open-o.ensures.value;
}

pub overflow_add-q : goal.overflow_add-q
overflow_add-q c = let f = fixes (leaf_entries (take c.args.footing c.args.a.now) c.args.b (c.args.end - c.args.from) c.args.from ++ leaf_entries (take c.args.footing c.args.a.now) c.args.d c.args.n 0) c.args.a.now c.args.footing c.args.at c.args.m c.args.t c.args.none.now c.args.none.now c.args.e c.requires.footing_le_at c.requires.small c.requires.both_within c.requires.long c.requires.n_len_bound c.requires.t_value c.requires.end_in_bounds _ refl in omega (arith, f.inside, f.end, c.well_formed.0)

pub overflow_add-q-2 : goal.overflow_add-q-2
overflow_add-q-2 c = let f = fixes (leaf_entries (take c.args.footing c.args.a.now) c.args.b (c.args.end - c.args.from) c.args.from ++ leaf_entries (take c.args.footing c.args.a.now) c.args.d c.args.n 0) c.args.a.now c.args.footing c.args.at c.args.m c.args.t c.args.none.now c.args.none.now c.args.e c.requires.footing_le_at c.requires.small c.requires.both_within c.requires.long c.requires.n_len_bound c.requires.t_value c.requires.end_in_bounds _ refl in omega (arith, f.inside, f.end, c.well_formed.0)

pub overflow_sub-q : goal.overflow_sub-q
overflow_sub-q c = omega (arith, (tail_fits (leaf_entries (take c.args.footing c.args.a.now) c.args.b (c.args.end - c.args.from) c.args.from ++ leaf_entries (take c.args.footing c.args.a.now) c.args.d c.args.n 0) c.args.a.now c.args.footing c.args.at c.args.m c.args.t c.args.none.now c.args.none.now c.args.e c.requires.footing_le_at c.requires.small c.requires.both_within c.requires.long c.requires.n_len_bound c.requires.t_value c.requires.end_in_bounds _ refl _ refl _ c.leaf_open-o.ensures.a_after _ c.leaf_open-o.ensures.value _ _ (leaves-end c.args.b c.args.from c.args.end c.args.d c.args.n c.args.a.now c.args.footing c.args.at c.args.m c.args.t c.args.none.now c.args.none.now c.args.e c.requires.footing_le_at c.requires.small c.requires.both_within c.requires.long c.requires.n_len_bound c.requires.t_value c.requires.end_in_bounds _ refl _ refl _ c.leaf_open-o.ensures.a_after _ c.leaf_open-o.ensures.value _ refl _ c.pen_leaves-z.ensures.value) (leaves-drawn c.args.b c.args.from c.args.end c.args.d c.args.n c.args.a.now c.args.footing c.args.at c.args.m c.args.t c.args.none.now c.args.none.now c.args.e c.requires.footing_le_at c.requires.small c.requires.both_within c.requires.long c.requires.n_len_bound c.requires.t_value c.requires.end_in_bounds _ refl _ refl _ c.leaf_open-o.ensures.a_after _ c.leaf_open-o.ensures.value _ refl _ c.pen_leaves-z.ensures.a_after)).0)

pub zeros-requires : goal.zeros-requires
zeros-requires c = let f = (tail_fits (leaf_entries (take c.args.footing c.args.a.now) c.args.b (c.args.end - c.args.from) c.args.from ++ leaf_entries (take c.args.footing c.args.a.now) c.args.d c.args.n 0) c.args.a.now c.args.footing c.args.at c.args.m c.args.t c.args.none.now c.args.none.now c.args.e c.requires.footing_le_at c.requires.small c.requires.both_within c.requires.long c.requires.n_len_bound c.requires.t_value c.requires.end_in_bounds _ refl _ refl _ c.leaf_open-o.ensures.a_after _ c.leaf_open-o.ensures.value _ _ (leaves-end c.args.b c.args.from c.args.end c.args.d c.args.n c.args.a.now c.args.footing c.args.at c.args.m c.args.t c.args.none.now c.args.none.now c.args.e c.requires.footing_le_at c.requires.small c.requires.both_within c.requires.long c.requires.n_len_bound c.requires.t_value c.requires.end_in_bounds _ refl _ refl _ c.leaf_open-o.ensures.a_after _ c.leaf_open-o.ensures.value _ refl _ c.pen_leaves-z.ensures.value) (leaves-drawn c.args.b c.args.from c.args.end c.args.d c.args.n c.args.a.now c.args.footing c.args.at c.args.m c.args.t c.args.none.now c.args.none.now c.args.e c.requires.footing_le_at c.requires.small c.requires.both_within c.requires.long c.requires.n_len_bound c.requires.t_value c.requires.end_in_bounds _ refl _ refl _ c.leaf_open-o.ensures.a_after _ c.leaf_open-o.ensures.value _ refl _ c.pen_leaves-z.ensures.a_after)) in omega (arith, f.0, f.1, c.leaf_open-o.auto.a, c.pen_leaves-z.auto.a)

pub returns : goal.returns
returns c = let all = leaf_done (leaf_entries (take c.args.footing c.args.a.now) c.args.b (c.args.end - c.args.from) c.args.from ++ leaf_entries (take c.args.footing c.args.a.now) c.args.d c.args.n 0) c.args.a.now c.args.footing c.args.at c.args.m c.args.t c.args.none.now c.args.none.now c.args.e c.requires.footing_le_at c.requires.small c.requires.both_within c.requires.long c.requires.n_len_bound c.requires.t_value c.requires.end_in_bounds _ refl _ refl _ c.leaf_open-o.ensures.a_after _ c.leaf_open-o.ensures.value _ _ (leaves-end c.args.b c.args.from c.args.end c.args.d c.args.n c.args.a.now c.args.footing c.args.at c.args.m c.args.t c.args.none.now c.args.none.now c.args.e c.requires.footing_le_at c.requires.small c.requires.both_within c.requires.long c.requires.n_len_bound c.requires.t_value c.requires.end_in_bounds _ refl _ refl _ c.leaf_open-o.ensures.a_after _ c.leaf_open-o.ensures.value _ refl _ c.pen_leaves-z.ensures.value) (leaves-drawn c.args.b c.args.from c.args.end c.args.d c.args.n c.args.a.now c.args.footing c.args.at c.args.m c.args.t c.args.none.now c.args.none.now c.args.e c.requires.footing_le_at c.requires.small c.requires.both_within c.requires.long c.requires.n_len_bound c.requires.t_value c.requires.end_in_bounds _ refl _ refl _ c.leaf_open-o.ensures.a_after _ c.leaf_open-o.ensures.value _ refl _ c.pen_leaves-z.ensures.a_after) _ c.zeros.ensures in record {
  value = all.0;
  a_after = all.1;
}
