-- `build_page_ahead::fill_run` meets its contract. Assumes nothing.
use native.Mathlib.Omega.{arith}
use mathlib.Core.Path.{sym, ◌∙◌}
use Rattle.build_paging.proofs.Left.{all_left, some_left, next_left}
use Rattle.build_page_ahead.proofs.Filled.{open_page}
use Rattle.build_page_ahead.proofs.Running.{run_none, run-some, run_begin, run_done, run_ready, run-answers, run-here, run-val, run-size, run_stop, run_stopped, run-remote, run_on}
use Rattle.build_page_ahead.proofs.fill_run.Goals as goal

pub returns-then-was-count : goal.returns-then-was-count
returns-then-was-count c = record {
  ready_2 = c.requires.ready;
  filled_by = run_none c.args.s.now c.args.limit c.args.budget c.args.count c.args.page c.args.first c.args.from.run c.if-was-count.true;
}

pub hand_at-hand-requires : goal.hand_at-hand-requires
hand_at-hand-requires c = record {
  known = c.requires.ready.known;
  opens = c.requires.opens (run-some c.args.s.now c.args.limit c.args.budget c.args.count c.args.page c.args.first c.args.from.run c.if-was-count.false).1;
}

pub loop-init : goal.loop-init
loop-init c = rw (all_left c.args.count) (run_begin c.args.s.now c.args.limit c.args.budget c.args.count c.args.page c.args.first c.args.from.run c.requires.ready.sized c.requires.runs c.hand_at-hand.result c.hand_at-hand.ensures.holds c.hand_at-hand.ensures.page_value)

pub spot_at-q-requires : goal.spot_at-q-requires
spot_at-q-requires c = record {
  holds = c.loop.invariant.holds;
  answers = run-answers _ _ _ _ _ _ _ _ _ _ _ _ _ c.loop.invariant (some_left _ _ c.loop-test.true);
}

pub old_here-r-requires : goal.old_here-r-requires
old_here-r-requires c = record {
  holds = c.spot_at-q.ensures.holds;
  i_lt_elems = c.spot_at-q.ensures.slot;
  answers = run-here _ _ _ _ _ _ _ _ _ _ _ _ _ c.loop.invariant (some_left _ _ c.loop-test.true) _ c.spot_at-q.ensures;
}

pub overflow_cast-v : goal.overflow_cast-v
overflow_cast-v c = omega (arith, run-val _ _ _ _ _ _ _ _ _ _ _ _ _ c.loop.invariant (some_left _ _ c.loop-test.true) _ c.spot_at-q.ensures _ c.old_here-r.ensures)

pub overflow_add-c : goal.overflow_add-c
overflow_add-c c = let z = run-size _ _ _ _ _ _ _ _ _ _ _ _ _ c.loop.invariant (some_left _ _ c.loop-test.true) _ c.spot_at-q.ensures _ c.old_here-r.ensures c.requires.limit_le_max_limit.0 _ c.calc_size.ensures in omega arith

pub overflow_add-c-in-loop : goal.overflow_add-c-in-loop
overflow_add-c-in-loop c = let z = run-size _ _ _ _ _ _ _ _ _ _ _ _ _ c.loop.invariant (some_left _ _ c.loop-test.true) _ c.spot_at-q.ensures _ c.old_here-r.ensures c.requires.limit_le_max_limit.0 _ c.calc_size.ensures in omega arith

pub returns-then-not-takes : goal.returns-then-not-takes
returns-then-not-takes c = record {
  ready_2 = run_stopped _ _ _ _ _ _ _ _ _ _ _ _ _ c.loop.invariant (some_left _ _ c.loop-test.true) _ c.spot_at-q.ensures;
  filled_by = run_stop _ _ _ _ _ _ _ _ _ _ _ _ _ c.loop.invariant (some_left _ _ c.loop-test.true) _ c.spot_at-q.ensures _ c.old_here-r.ensures c.requires.limit_le_max_limit.0 _ c.calc_size.ensures (sym c.takes.ensures ∙ c.if-not-takes.true) _ c.hand_at-hand.ensures.page_value _ (open_page c.args.from.run (run-some c.args.s.now c.args.limit c.args.budget c.args.count c.args.page c.args.first c.args.from.run c.if-was-count.false).0);
}

pub overflow_add-n : goal.overflow_add-n
overflow_add-n c = let v = c.loop.invariant.sized in omega (arith, v.many, v.small)

pub overflow_add-t : goal.overflow_add-t
overflow_add-t c = let v = c.loop.invariant.sized in let z = run-size _ _ _ _ _ _ _ _ _ _ _ _ _ c.loop.invariant (some_left _ _ c.loop-test.true) _ c.spot_at-q.ensures _ c.old_here-r.ensures c.requires.limit_le_max_limit.0 _ c.calc_size.ensures in omega (arith, v.small)

pub remote_len-f-requires : goal.remote_len-f-requires
remote_len-f-requires c = run-val _ _ _ _ _ _ _ _ _ _ _ _ _ c.loop.invariant (some_left _ _ c.loop-test.true) _ c.spot_at-q.ensures _ c.old_here-r.ensures

pub overflow_add-f : goal.overflow_add-f
overflow_add-f c = let v = c.loop.invariant.sized in omega (arith, v.many, v.small, v.away, run-remote _ _ _ _ _ _ _ _ _ _ _ _ _ c.loop.invariant (some_left _ _ c.loop-test.true) _ c.spot_at-q.ensures _ c.old_here-r.ensures c.requires.limit_le_max_limit.0 _ c.calc_size.ensures _ c.remote_len-f.ensures)

pub loop-preserved : goal.loop-preserved
loop-preserved c = rw (next_left _ _) (run_on _ _ _ _ _ _ _ _ _ _ _ _ _ c.loop.invariant (some_left _ _ c.loop-test.true) _ c.spot_at-q.ensures _ c.old_here-r.ensures c.requires.limit_le_max_limit.0 _ c.calc_size.ensures _ c.remote_len-f.ensures c.requires.limit_le_max_limit.1 (sym c.takes.ensures ∙ c.if-not-takes.false))

pub returns : goal.returns
returns c = record {
  ready_2 = run_ready _ _ _ _ _ _ _ _ _ _ _ _ _ c.loop.invariant;
  filled_by = run_done _ _ _ _ _ _ _ _ _ _ _ _ _ c.loop.invariant (omega (arith, c.loop-test.false)) _ c.hand_at-hand.ensures.page_value _ (open_page c.args.from.run (run-some c.args.s.now c.args.limit c.args.budget c.args.count c.args.page c.args.first c.args.from.run c.if-was-count.false).0);
}
