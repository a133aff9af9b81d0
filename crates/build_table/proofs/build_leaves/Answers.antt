-- `build_table::build_leaves` meets its contract. Assumes nothing.
use Rattle.std.proofs.Common.{Err, rules}
use native.Mathlib.Omega.{arith}
use mathlib.Core.Path.{sym, ◌∙◌, ◌≡◌}
use lib.ListN.{take}
use lib.Seq.{length-take-le}
use Rattle.build_table.specs.Pages.{in_leaves}
use Rattle.build_table.proofs.Leafing.{leaf_refused, leaf_totals, leaf_few, leaf_small, leaf_long, leaf_room_lem, leaf_built_lem}
use Rattle.build_table.proofs.build_leaves.Goals as goal

pub slice_bounds-judge_leaves-end : goal.slice_bounds-judge_leaves-end
slice_bounds-judge_leaves-end c = c.requires.next_in_bounds

pub slice_bounds-judge_leaves-end-2 : goal.slice_bounds-judge_leaves-end-2
slice_bounds-judge_leaves-end-2 c = sym (length-take-le _ _ c.requires.next_in_bounds)

pub judge_leaves-requires : goal.judge_leaves-requires
judge_leaves-requires c = record {
  leaves = c.requires.leaves;
  sane = c.requires.sane;
  next_le_len = (c.requires.next_in_bounds, omega (arith, c.well_formed.0));
}

pub write_leaves-leaf-requires : goal.write_leaves-leaf-requires
write_leaves-leaf-requires c = record {
  footing_le_at = omega arith;
  sane = c.requires.sane;
  small = leaf_small c.args.a.now c.args.next c.args.m c.args.none.now c.args.none.now c.args.e c.requires.leaves.held (in_leaves (take c.args.next c.args.a.now) c.args.b c.args.from c.args.end c.args.d c.args.n) _ c.judge_leaves.ensures _ c.in_ok-t.was;
  both_within = c.requires.leaves.held.inside;
  judged = (c.requires.leaves.left, c.requires.leaves.right);
  end_le_elems = (c.requires.leaves.end_in, c.requires.leaves.n_in);
  long = leaf_long c.args.a.now c.args.next c.args.m c.args.none.now c.args.none.now c.args.e c.requires.leaves.held (in_leaves (take c.args.next c.args.a.now) c.args.b c.args.from c.args.end c.args.d c.args.n) _ c.judge_leaves.ensures _ c.in_ok-t.was;
  n_len_bound = leaf_few c.args.a.now c.args.next c.args.m c.args.none.now c.args.none.now c.args.e c.requires.leaves.held (in_leaves (take c.args.next c.args.a.now) c.args.b c.args.from c.args.end c.args.d c.args.n) _ c.judge_leaves.ensures _ c.in_ok-t.was;
  t_value = leaf_totals c.args.a.now c.args.next c.args.m c.args.none.now c.args.none.now c.args.e c.requires.leaves.held (in_leaves (take c.args.next c.args.a.now) c.args.b c.args.from c.args.end c.args.d c.args.n) _ c.judge_leaves.ensures _ c.in_ok-t.was;
  end_in_bounds = leaf_room_lem c.args.a.now c.args.next c.args.m c.args.none.now c.args.none.now c.args.e c.requires.leaves.held (in_leaves (take c.args.next c.args.a.now) c.args.b c.args.from c.args.end c.args.d c.args.n) _ c.judge_leaves.ensures _ c.in_ok-t.was;
}

pub returns-in_err-t : goal.returns-in_err-t
returns-in_err-t c = let refused : c.from_residual.result ≡ Err c.in_err-t.field-0.0 = search rules in
    let all = leaf_refused c.args.a.now c.args.next c.args.m c.args.none.now c.args.none.now c.args.e c.requires.leaves.held (in_leaves (take c.args.next c.args.a.now) c.args.b c.args.from c.args.end c.args.d c.args.n) _ c.judge_leaves.ensures _ c.in_err-t.was in record {
      value = refused ∙ all.0;
      a_after = all.1;
    }

pub returns : goal.returns
returns c = let all = leaf_built_lem c.args.a.now c.args.next c.args.m c.args.none.now c.args.none.now c.args.e c.requires.leaves.held (in_leaves (take c.args.next c.args.a.now) c.args.b c.args.from c.args.end c.args.d c.args.n) _ c.judge_leaves.ensures _ c.in_ok-t.was _ _ c.write_leaves-leaf.ensures.value c.write_leaves-leaf.ensures.a_after in record {
  value = all.0;
  a_after = all.1;
}
