-- `build_page_ahead::fill_page` meets its contract. Assumes nothing.
use native.Mathlib.Omega.{arith}
use Rattle.build_page_ahead.proofs.Paging.{page_begin, page_full, page_done, page-runs, page-opens, page-on}
use Rattle.build_page_ahead.proofs.fill_page.Goals as goal

pub loop-i-init : goal.loop-i-init
loop-i-init c = page_begin c.args.s.now c.args.b c.args.end c.args.limit c.args.budget c.args.from c.args.begun c.requires.ready

pub returns-then-x : goal.returns-then-x
returns-then-x c = record {
  ready_2 = c.loop-i.invariant.ready;
  run_value = page_full _ _ _ _ _ _ _ _ _ c.loop-i.invariant c.if-x.true;
}

pub past_here-h-requires : goal.past_here-h-requires
past_here-h-requires c = record {
  judged = c.requires.judged;
  i_lt_elems = omega (arith, c.requires.end_le_elems, c.loop-i-test.true);
}

pub fill_run-x-requires : goal.fill_run-x-requires
fill_run-x-requires c = record {
  limit_le_max_limit = c.requires.limit_le_max_limit;
  runs = page-runs _ _ _ _ _ _ _ _ _ c.loop-i.invariant c.requires.judged c.requires.end_le_elems c.loop-i-test.true _ c.past_here-h.ensures;
  opens = page-opens _ _ _ _ _ _ _ _ _ c.loop-i.invariant c.requires.judged c.requires.end_le_elems c.loop-i-test.true _ c.past_here-h.ensures;
  ready = c.loop-i.invariant.ready;
}

pub loop-i-preserved : goal.loop-i-preserved
loop-i-preserved c = page-on _ _ _ _ _ _ _ _ _ c.loop-i.invariant c.requires.judged c.requires.end_le_elems c.loop-i-test.true _ c.past_here-h.ensures _ c.fill_run-x.ensures.ready_2 c.fill_run-x.ensures.filled_by

pub returns : goal.returns
returns c = record {
  ready_2 = c.loop-i.invariant.ready;
  run_value = page_done _ _ _ _ _ _ _ _ _ c.loop-i.invariant (omega (arith, c.loop-i-test.false));
}
