-- `build_leaf::write_list` meets its contract. Assumes nothing.
use mathlib.Core.Path.{refl}
use native.Mathlib.Omega.{arith}
use Rattle.build_pen.specs.Places.{list_from}
use Rattle.build_leaf.proofs.Listed.{fixes, pen_asks, tail_fits, leaf_done}
use Rattle.build_leaf.proofs.write_list.Goals as goal

pub leaf_open-o-requires : goal.leaf_open-o-requires
leaf_open-o-requires c = record {
  fixes = fixes (list_from c.args.list.now 5) c.args.a.now c.args.footing c.args.at c.args.m c.args.t c.args.lo.now c.args.hi.now c.args.e c.requires.footing_le_at c.requires.small c.requires.both_within c.requires.long c.requires.list_len_bound c.requires.t_value c.requires.end_in_bounds _ refl;
  both_within = c.requires.both_within;
}

pub overflow_add-base : goal.overflow_add-base
overflow_add-base c = let f = fixes (list_from c.args.list.now 5) c.args.a.now c.args.footing c.args.at c.args.m c.args.t c.args.lo.now c.args.hi.now c.args.e c.requires.footing_le_at c.requires.small c.requires.both_within c.requires.long c.requires.list_len_bound c.requires.t_value c.requires.end_in_bounds _ refl in omega (arith, f.inside, f.end, c.well_formed.0)

pub pen_all-z-requires : goal.pen_all-z-requires
pen_all-z-requires c = record {
  sane = c.requires.sane;
  well = c.requires.well;
  all_laid = pen_asks (list_from c.args.list.now 5) c.args.a.now c.args.footing c.args.at c.args.m c.args.t c.args.lo.now c.args.hi.now c.args.e c.requires.footing_le_at c.requires.small c.requires.both_within c.requires.long c.requires.list_len_bound c.requires.t_value c.requires.end_in_bounds _ refl _ refl _ c.leaf_open-o.ensures.a_after 0 (omega arith) _ c.leaf_open-o.ensures.value;
}

pub overflow_add-q : goal.overflow_add-q
overflow_add-q c = let f = fixes (list_from c.args.list.now 5) c.args.a.now c.args.footing c.args.at c.args.m c.args.t c.args.lo.now c.args.hi.now c.args.e c.requires.footing_le_at c.requires.small c.requires.both_within c.requires.long c.requires.list_len_bound c.requires.t_value c.requires.end_in_bounds _ refl in omega (arith, f.inside, f.end, c.well_formed.0)

pub overflow_add-q-2 : goal.overflow_add-q-2
overflow_add-q-2 c = let f = fixes (list_from c.args.list.now 5) c.args.a.now c.args.footing c.args.at c.args.m c.args.t c.args.lo.now c.args.hi.now c.args.e c.requires.footing_le_at c.requires.small c.requires.both_within c.requires.long c.requires.list_len_bound c.requires.t_value c.requires.end_in_bounds _ refl in omega (arith, f.inside, f.end, c.well_formed.0)

pub overflow_sub-q : goal.overflow_sub-q
overflow_sub-q c = omega (arith, (tail_fits (list_from c.args.list.now 5) c.args.a.now c.args.footing c.args.at c.args.m c.args.t c.args.lo.now c.args.hi.now c.args.e c.requires.footing_le_at c.requires.small c.requires.both_within c.requires.long c.requires.list_len_bound c.requires.t_value c.requires.end_in_bounds _ refl _ refl _ c.leaf_open-o.ensures.a_after _ c.leaf_open-o.ensures.value _ _ c.pen_all-z.ensures.value c.pen_all-z.ensures.a_after).0)

pub zeros-requires : goal.zeros-requires
zeros-requires c = let f = tail_fits (list_from c.args.list.now 5) c.args.a.now c.args.footing c.args.at c.args.m c.args.t c.args.lo.now c.args.hi.now c.args.e c.requires.footing_le_at c.requires.small c.requires.both_within c.requires.long c.requires.list_len_bound c.requires.t_value c.requires.end_in_bounds _ refl _ refl _ c.leaf_open-o.ensures.a_after _ c.leaf_open-o.ensures.value _ _ c.pen_all-z.ensures.value c.pen_all-z.ensures.a_after in omega (arith, f.0, f.1, c.leaf_open-o.auto.a, c.pen_all-z.auto.a)

pub returns : goal.returns
returns c = let all = leaf_done (list_from c.args.list.now 5) c.args.a.now c.args.footing c.args.at c.args.m c.args.t c.args.lo.now c.args.hi.now c.args.e c.requires.footing_le_at c.requires.small c.requires.both_within c.requires.long c.requires.list_len_bound c.requires.t_value c.requires.end_in_bounds _ refl _ refl _ c.leaf_open-o.ensures.a_after _ c.leaf_open-o.ensures.value _ _ c.pen_all-z.ensures.value c.pen_all-z.ensures.a_after _ c.zeros.ensures in record {
  value = all.0;
  a_after = all.1;
}
