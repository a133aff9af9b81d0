-- `build_page_pen::turn` meets its contract. Assumes nothing.
use native.Mathlib.Omega.{arith}
use mathlib.Core.Path.{sym}
use lib.Seq.{length-take-le}
use Rattle.build_pen.proofs.Turning.{turn_stays, turn_none, turn_opens, turn_opened}
use Rattle.build_page_pen.proofs.Turns.{ready_low}
use Rattle.build_page_pen.proofs.turn.Goals as goal

pub returns-then-q-gt0 : goal.returns-then-q-gt0
returns-then-q-gt0 c = λ key rd. turn_stays _ _ _ _ _ rd.steady c.if-q-gt0.true

pub slice_bounds-ahead-end : goal.slice_bounds-ahead-end
slice_bounds-ahead-end c = omega (arith, ready_low _ _ _ _ _ c.requires.by_index.1)

pub slice_bounds-ahead-end-2 : goal.slice_bounds-ahead-end-2
slice_bounds-ahead-end-2 c = sym (length-take-le _ _ (omega (arith, ready_low _ _ _ _ _ c.requires.by_index.1)))

pub ahead-r-requires : goal.ahead-r-requires
ahead-r-requires c = record {
  limit_le_max_limit = (c.requires.sane.limit, c.requires.sane.budget);
  holds = c.requires.holds;
  runs = c.requires.runs;
  follow = c.requires.follow;
}

pub returns-then-r-eq0 : goal.returns-then-r-eq0
returns-then-r-eq0 c = λ key rd. turn_none _ c.args.m _ c.args.a.now c.args.q c.requires.sane rd.steady rd.order c.if-q-gt0.false _ (c.ahead-r.ensures key) c.if-r-eq0.true

pub opened-requires : goal.opened-requires
opened-requires c = turn_opens _ c.args.m _ c.args.a.now c.args.q c.requires.sane c.requires.by_index.1.steady c.requires.by_index.1.order c.if-q-gt0.false _ (c.ahead-r.ensures c.requires.by_index.0) c.if-r-eq0.false

pub returns : goal.returns
returns c = λ key rd. turn_opened _ c.args.m _ c.args.a.now c.args.q c.requires.sane rd.steady rd.order c.if-q-gt0.false _ (c.ahead-r.ensures key) c.if-r-eq0.false _ _ c.opened.ensures.value c.opened.ensures.a_after
