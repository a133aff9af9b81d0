-- `build_table::judge_leaves` meets its contract. Assumes nothing.
use native.Mathlib.Omega.{arith}
use Rattle.build_table.proofs.Leaves.{swept_fits, swept_many, due-first, many-first, due-second, many-second, third_slim, summed, leaves-weighed}
use Rattle.build_table.proofs.judge_leaves.Goals as goal

pub sweep_page-x-requires : goal.sweep_page-x-requires
sweep_page-x-requires c = record {
  limit_le_max_limit = (c.requires.sane.limit, c.requires.sane.budget);
  judged = c.requires.leaves.left;
  end_le_elems = c.requires.leaves.end_in;
  due = due-first c.args.none.now c.args.footing.now c.args.b c.args.from c.args.end c.args.d c.args.n c.args.len c.args.next c.args.m c.args.e c.requires.leaves (omega (arith, c.requires.next_le_len.0, c.requires.next_le_len.1));
}

pub returns-in_default : goal.returns-in_default
returns-in_default c = many-first c.args.none.now c.args.footing.now c.args.b c.args.from c.args.end c.args.d c.args.n c.args.len c.args.next c.args.m c.args.e c.requires.leaves (omega (arith, c.requires.next_le_len.0, c.requires.next_le_len.1)) (swept_many _ _ _ _ _ _ _ _ _ _ c.sweep_page-x.ensures c.in_default.is)

pub sweep_page-y-requires : goal.sweep_page-y-requires
sweep_page-y-requires c = record {
  limit_le_max_limit = (c.requires.sane.limit, c.requires.sane.budget);
  judged = c.requires.leaves.right;
  end_le_elems = c.requires.leaves.n_in;
  due = due-second c.args.none.now c.args.footing.now c.args.b c.args.from c.args.end c.args.d c.args.n c.args.len c.args.next c.args.m c.args.e c.requires.leaves (omega (arith, c.requires.next_le_len.0, c.requires.next_le_len.1)) _ _ (swept_fits _ _ _ _ _ _ _ _ _ _ _ _ c.sweep_page-x.ensures c.in-Some.is);
}

pub returns-in_default-y : goal.returns-in_default-y
returns-in_default-y c = many-second c.args.none.now c.args.footing.now c.args.b c.args.from c.args.end c.args.d c.args.n c.args.len c.args.next c.args.m c.args.e c.requires.leaves (omega (arith, c.requires.next_le_len.0, c.requires.next_le_len.1)) _ _ (swept_fits _ _ _ _ _ _ _ _ _ _ _ _ c.sweep_page-x.ensures c.in-Some.is) (swept_many _ _ _ _ _ _ _ _ _ _ c.sweep_page-y.ensures c.in_default-y.is)

pub closed-requires : goal.closed-requires
closed-requires c = third_slim c.args.none.now c.args.footing.now c.args.b c.args.from c.args.end c.args.d c.args.n c.args.len c.args.next c.args.m c.args.e c.requires.leaves (omega (arith, c.requires.next_le_len.0, c.requires.next_le_len.1)) _ _ (swept_fits _ _ _ _ _ _ _ _ _ _ _ _ c.sweep_page-x.ensures c.in-Some.is) _ _ (swept_fits _ _ _ _ _ _ _ _ _ _ _ _ c.sweep_page-y.ensures c.in-Some-y.is)

pub weigh-requires : goal.weigh-requires
weigh-requires c = let z = summed c.args.none.now c.args.footing.now c.args.b c.args.from c.args.end c.args.d c.args.n c.args.len c.args.next c.args.m c.args.e c.requires.leaves (omega (arith, c.requires.next_le_len.0, c.requires.next_le_len.1)) _ _ (swept_fits _ _ _ _ _ _ _ _ _ _ _ _ c.sweep_page-x.ensures c.in-Some.is) _ _ (swept_fits _ _ _ _ _ _ _ _ _ _ _ _ c.sweep_page-y.ensures c.in-Some-y.is) _ c.closed.ensures in record {
  x_le_max_key = (c.requires.leaves.held.footing, c.requires.leaves.held.high);
  bounded = z.bounded;
  end_bound = (omega (arith, z.end, c.requires.next_le_len.0, c.requires.next_le_len.1), z.count);
}

pub returns : goal.returns
returns c = leaves-weighed c.args.none.now c.args.footing.now c.args.b c.args.from c.args.end c.args.d c.args.n c.args.len c.args.next c.args.m c.args.e c.requires.leaves (omega (arith, c.requires.next_le_len.0, c.requires.next_le_len.1)) _ _ (swept_fits _ _ _ _ _ _ _ _ _ _ _ _ c.sweep_page-x.ensures c.in-Some.is) _ _ (swept_fits _ _ _ _ _ _ _ _ _ _ _ _ c.sweep_page-y.ensures c.in-Some-y.is) _ c.closed.ensures _ c.weigh.ensures
