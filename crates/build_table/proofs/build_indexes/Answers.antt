-- `build_table::build_indexes` meets its contract. Assumes nothing.
use Rattle.std.proofs.Common.{Err, rules}
use native.Mathlib.Omega.{arith}
use mathlib.Core.Path.{sym, ◌∙◌, ◌≡◌}
use lib.Seq.{length-take-le}
use Rattle.build_table.proofs.Judging.{index_refused, index_ready, index_small, index_built_lem}
use Rattle.build_table.proofs.build_indexes.Goals as goal

pub slice_bounds-judge_indexes-end : goal.slice_bounds-judge_indexes-end
slice_bounds-judge_indexes-end c = c.requires.next_in_bounds

pub slice_bounds-judge_indexes-end-2 : goal.slice_bounds-judge_indexes-end-2
slice_bounds-judge_indexes-end-2 c = sym (length-take-le _ _ c.requires.next_in_bounds)

pub judge_indexes-requires : goal.judge_indexes-requires
judge_indexes-requires c = record {
  judged = c.requires.judged;
  from_le_end = c.requires.from_le_end;
  held = c.requires.held;
  next_le_len = c.requires.next_in_bounds;
  count_value = c.requires.count_value;
  count_value_2 = c.requires.count_value_2;
}

pub write_pages-requires : goal.write_pages-requires
write_pages-requires c = record {
  judged = c.requires.judged;
  from_le_end = c.requires.from_le_end;
  ready = index_ready _ _ c.args.m _ _ _ _ c.requires.next_in_bounds c.requires.held _ c.judge_indexes.ensures _ _ c.in_ok-n.was;
}

pub overflow_cast-size : goal.overflow_cast-size
overflow_cast-size c = omega (arith, index_small _ _ c.args.m _ _ _ _ c.requires.next_in_bounds c.requires.held _ c.judge_indexes.ensures _ _ c.in_ok-n.was)

pub overflow_add-result : goal.overflow_add-result
overflow_add-result c = omega (arith, (index_ready _ _ c.args.m _ _ _ _ c.requires.next_in_bounds c.requires.held _ c.judge_indexes.ensures _ _ c.in_ok-n.was).room, c.frame_len.ensures, c.well_formed.0)

pub returns-in_err-n : goal.returns-in_err-n
returns-in_err-n c = let refused : c.from_residual.result ≡ Err c.in_err-n.field-0.0 = search rules in
    let all = index_refused _ _ c.args.m _ _ _ _ c.requires.next_in_bounds c.requires.held _ c.judge_indexes.ensures _ c.in_err-n.was in record {
      value = refused ∙ all.0;
      a_after = all.1;
    }

pub returns : goal.returns
returns c = let all = index_built_lem _ _ c.args.m _ _ _ _ c.requires.next_in_bounds c.requires.held _ c.judge_indexes.ensures _ _ c.in_ok-n.was _ _ c.write_pages.ensures c.frame_len.ensures in record {
  value = all.0;
  a_after = all.1;
}
