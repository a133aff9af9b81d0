-- `build_pen::turn` meets its contract. Assumes nothing.
use Rattle.build_pen.proofs.Turning.{turn_stays, turn_none, turn_opens, turn_opened}
use Rattle.build_pen.proofs.turn.Goals as goal

pub returns-then-q-gt0 : goal.returns-then-q-gt0
returns-then-q-gt0 c = turn_stays 0 _ _ _ _ c.requires.steady c.if-q-gt0.true

pub ahead-r-requires : goal.ahead-r-requires
ahead-r-requires c = record {
  limit_le_max_limit = (c.requires.sane.limit, c.requires.sane.budget);
  well = c.requires.well;
  blen_in_bounds = c.requires.klen_in_bounds;
}

pub returns-then-r-eq0 : goal.returns-then-r-eq0
returns-then-r-eq0 c = turn_none 0 c.args.m _ c.args.a.now c.args.q c.requires.sane c.requires.steady c.requires.rising c.if-q-gt0.false _ c.ahead-r.ensures c.if-r-eq0.true

pub opened-requires : goal.opened-requires
opened-requires c = turn_opens 0 c.args.m _ c.args.a.now c.args.q c.requires.sane c.requires.steady c.requires.rising c.if-q-gt0.false _ c.ahead-r.ensures c.if-r-eq0.false

pub returns : goal.returns
returns c = turn_opened 0 c.args.m _ c.args.a.now c.args.q c.requires.sane c.requires.steady c.requires.rising c.if-q-gt0.false _ c.ahead-r.ensures c.if-r-eq0.false _ _ c.opened.ensures.value c.opened.ensures.a_after
