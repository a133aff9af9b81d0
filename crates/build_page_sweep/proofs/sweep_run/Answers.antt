-- `build_page_sweep::sweep_run` meets its contract. Assumes nothing.
use native.Mathlib.Omega.{arith}
use mathlib.Core.Logic.{inr}
use Rattle.build_paging.proofs.Left.{all_left, some_left, next_left}
use Rattle.build_page_sweep.proofs.Running.{run_none, run_begin, run_done, run-bounded, run_slim, run-answers, run-here, run-val, run_on}
use Rattle.build_page_sweep.proofs.sweep_run.Goals as goal

pub returns-then-h-eq0 : goal.returns-then-h-eq0
returns-then-h-eq0 c = record {
  known_2 = c.requires.known;
  run_swept_by = run_none c.args.s.now c.args.limit c.args.budget c.args.h c.args.from c.args.begun c.if-h-eq0.true;
}

pub hand_at-hand-requires : goal.hand_at-hand-requires
hand_at-hand-requires c = record {
  known = c.requires.known;
  opens = c.requires.run.opens (omega (arith, c.if-h-eq0.false));
}

pub loop-init : goal.loop-init
loop-init c = rw (all_left c.args.h.count) (run_begin c.args.s.now c.args.limit c.args.budget c.args.h c.args.from c.args.begun c.requires.run c.requires.run_due c.hand_at-hand.result c.hand_at-hand.ensures.holds c.hand_at-hand.ensures.page_value)

pub spot_at-q-requires : goal.spot_at-q-requires
spot_at-q-requires c = record {
  holds = c.loop.invariant.holds;
  answers = run-answers _ _ _ _ _ _ _ _ _ _ _ _ _ c.loop.invariant (some_left _ _ c.loop-test.true);
}

pub old_here-r-requires : goal.old_here-r-requires
old_here-r-requires c = record {
  holds = c.spot_at-q.ensures.holds;
  i_lt_elems = c.spot_at-q.ensures.slot;
  answers = run-here _ _ _ _ _ _ _ _ _ _ _ _ _ c.loop.invariant (some_left _ _ c.loop-test.true) _ c.spot_at-q.ensures;
}

pub with_cut-g-requires : goal.with_cut-g-requires
with_cut-g-requires c = record {
  limit_le_max_limit = (c.requires.limit_le_max_limit.0, run-val _ _ _ _ _ _ _ _ _ _ _ _ _ c.loop.invariant (some_left _ _ c.loop-test.true) _ c.spot_at-q.ensures _ c.old_here-r.ensures);
  slim = run_slim _ _ _ _ _ _ _ _ _ _ _ _ _ c.loop.invariant;
}

pub with_old-t-requires : goal.with_old-t-requires
with_old-t-requires c = record {
  n_le_max_value = run-val _ _ _ _ _ _ _ _ _ _ _ _ _ c.loop.invariant (some_left _ _ c.loop-test.true) _ c.spot_at-q.ensures _ c.old_here-r.ensures;
  bounded = run-bounded _ _ _ _ _ _ _ _ _ _ _ _ _ c.loop.invariant;
}

pub loop-preserved : goal.loop-preserved
loop-preserved c = rw (next_left _ _) (run_on _ _ _ _ _ _ _ _ _ _ _ _ _ c.loop.invariant (some_left _ _ c.loop-test.true) _ c.spot_at-q.ensures _ c.old_here-r.ensures c.requires.limit_le_max_limit.0 c.requires.limit_le_max_limit.1 _ c.with_old-t.ensures _ c.with_cut-g.ensures)

pub returns : goal.returns
returns c = record {
  known_2 = inr c.loop.invariant.holds;
  run_swept_by = run_done _ _ _ _ _ _ _ _ _ _ _ _ _ c.loop.invariant (omega (arith, c.loop-test.false)) _ c.hand_at-hand.ensures.page_value;
}
