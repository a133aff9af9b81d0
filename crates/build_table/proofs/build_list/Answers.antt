-- `build_table::build_list` meets its contract. Assumes nothing.
use Rattle.std.proofs.Common.{Err, rules}
use native.Mathlib.Omega.{arith}
use mathlib.Core.Path.{sym, ◌∙◌, ◌≡◌}
use lib.Seq.{length-take-le}
use Rattle.build_table.proofs.Listing.{leaf_list_refused, fit_well, fit_small, fit_long, fit_few, fit_totals, fit_room, fit_built}
use Rattle.build_table.proofs.build_list.Goals as goal

pub slice_bounds-judge_list-end : goal.slice_bounds-judge_list-end
slice_bounds-judge_list-end c = c.requires.next_in_bounds

pub slice_bounds-judge_list-end-2 : goal.slice_bounds-judge_list-end-2
slice_bounds-judge_list-end-2 c = sym (length-take-le _ _ c.requires.next_in_bounds)

pub judge_list-requires : goal.judge_list-requires
judge_list-requires c = record {
  from_value = c.requires.from_value;
  lo_value = c.requires.lo_value;
  held = c.requires.held;
  sane = c.requires.sane;
  next_le_len = (c.requires.next_in_bounds, omega (arith, c.well_formed.0));
}

pub write_list-leaf-requires : goal.write_list-leaf-requires
write_list-leaf-requires c = record {
  footing_le_at = omega arith;
  sane = c.requires.sane;
  small = fit_small c.args.a.now c.args.list.now c.args.next c.args.m c.args.lo.now c.args.hi.now c.args.e c.requires.held _ c.judge_list.ensures _ c.in_ok-t.was;
  both_within = c.requires.held.inside;
  well = fit_well c.args.a.now c.args.list.now c.args.next c.args.m c.args.lo.now c.args.hi.now c.args.e c.requires.held _ c.judge_list.ensures _ c.in_ok-t.was;
  long = fit_long c.args.a.now c.args.list.now c.args.next c.args.m c.args.lo.now c.args.hi.now c.args.e c.requires.held _ c.judge_list.ensures _ c.in_ok-t.was;
  list_len_bound = fit_few c.args.a.now c.args.list.now c.args.next c.args.m c.args.lo.now c.args.hi.now c.args.e c.requires.held _ c.judge_list.ensures _ c.in_ok-t.was;
  t_value = fit_totals c.args.a.now c.args.list.now c.args.next c.args.m c.args.lo.now c.args.hi.now c.args.e c.requires.held _ c.judge_list.ensures _ c.in_ok-t.was;
  end_in_bounds = fit_room c.args.a.now c.args.list.now c.args.next c.args.m c.args.lo.now c.args.hi.now c.args.e c.requires.held _ c.judge_list.ensures _ c.in_ok-t.was;
}

pub returns-in_err-t : goal.returns-in_err-t
returns-in_err-t c = let refused : c.from_residual.result ≡ Err c.in_err-t.field-0.0 = search rules in
    let all = leaf_list_refused c.args.a.now c.args.list.now c.args.next c.args.m c.args.lo.now c.args.hi.now c.args.e c.requires.held _ c.judge_list.ensures _ c.in_err-t.was in record {
      value = refused ∙ all.0;
      a_after = all.1;
    }

pub returns : goal.returns
returns c = let all = fit_built c.args.a.now c.args.list.now c.args.next c.args.m c.args.lo.now c.args.hi.now c.args.e c.requires.held _ c.judge_list.ensures _ c.in_ok-t.was _ _ c.write_list-leaf.ensures.value c.write_list-leaf.ensures.a_after in record {
  value = all.0;
  a_after = all.1;
}
