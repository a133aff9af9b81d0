-- `build_table::build_index_list` meets its contract. Assumes nothing.
use Rattle.std.proofs.Common.{Err, rules}
use native.Mathlib.Omega.{arith}
use mathlib.Core.Path.{sym, ◌∙◌, ◌≡◌}
use lib.Seq.{length-take-le}
use Rattle.build_table.proofs.Listing.{index_list_refused, index_fit_well, index_fit_ready, index_fit_built}
use Rattle.build_table.proofs.build_index_list.Goals as goal

pub slice_bounds-judge_index_list-end : goal.slice_bounds-judge_index_list-end
slice_bounds-judge_index_list-end c = c.requires.next_in_bounds

pub slice_bounds-judge_index_list-end-2 : goal.slice_bounds-judge_index_list-end-2
slice_bounds-judge_index_list-end-2 c = sym (length-take-le _ _ c.requires.next_in_bounds)

pub judge_index_list-requires : goal.judge_index_list-requires
judge_index_list-requires c = record {
  from_value = c.requires.from_value;
  lo_value = c.requires.lo_value;
  held = c.requires.held;
  next_le_len = c.requires.next_in_bounds;
}

pub write_list-requires : goal.write_list-requires
write_list-requires c = record {
  first_of_value = index_fit_well c.args.a.now c.args.list.now c.args.next c.args.m c.args.lo.now c.args.hi.now c.args.e c.requires.next_in_bounds c.requires.held _ c.judge_index_list.ensures _ _ c.in_ok-n.was;
  ready = index_fit_ready c.args.a.now c.args.list.now c.args.next c.args.m c.args.lo.now c.args.hi.now c.args.e c.requires.next_in_bounds c.requires.held _ c.judge_index_list.ensures _ _ c.in_ok-n.was;
}

pub overflow_cast-size : goal.overflow_cast-size
overflow_cast-size c = let z = (index_fit_ready c.args.a.now c.args.list.now c.args.next c.args.m c.args.lo.now c.args.hi.now c.args.e c.requires.next_in_bounds c.requires.held _ c.judge_index_list.ensures _ _ c.in_ok-n.was).small in omega (arith, z)

pub overflow_add-result : goal.overflow_add-result
overflow_add-result c = let z = (index_fit_ready c.args.a.now c.args.list.now c.args.next c.args.m c.args.lo.now c.args.hi.now c.args.e c.requires.next_in_bounds c.requires.held _ c.judge_index_list.ensures _ _ c.in_ok-n.was).room in omega (arith, z, c.frame_len.ensures, c.well_formed.0)

pub returns-in_err-n : goal.returns-in_err-n
returns-in_err-n c = let refused : c.from_residual.result ≡ Err c.in_err-n.field-0.0 = search rules in
    let all = index_list_refused c.args.a.now c.args.list.now c.args.next c.args.m c.args.lo.now c.args.hi.now c.args.e c.requires.next_in_bounds c.requires.held _ c.judge_index_list.ensures _ c.in_err-n.was in record {
      value = refused ∙ all.0;
      a_after = all.1;
    }

pub returns : goal.returns
returns c = let all = index_fit_built c.args.a.now c.args.list.now c.args.next c.args.m c.args.lo.now c.args.hi.now c.args.e c.requires.next_in_bounds c.requires.held _ c.judge_index_list.ensures _ _ c.in_ok-n.was _ _ c.write_list.ensures c.frame_len.ensures in record {
  value = all.0;
  a_after = all.1;
}
