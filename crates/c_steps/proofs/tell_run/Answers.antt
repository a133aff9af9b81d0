-- `c_steps::tell_run` meets its contract. Assumes nothing.
use Rattle.c_steps.proofs.Running.{told_none, told_refused, told-run}
use Rattle.c_steps.proofs.tell_run.Goals as goal

pub returns-then-x-eq0-2 : goal.returns-then-x-eq0-2
returns-then-x-eq0-2 c = let all = told_none c.args.x _ _ c.if-x-eq0.true c.if-x-eq0-2.true c.store.ensures in record {
  value = all.0;
  walk_after = all.1.0;
  out_after = all.1.1;
}

pub returns-else-x-eq0-2 : goal.returns-else-x-eq0-2
returns-else-x-eq0-2 c = let all = told_refused c.args.x _ _ c.if-x-eq0.true c.if-x-eq0-2.false in record {
  value = all.0;
  walk_after = all.1.0;
  out_after = all.1.1;
}

pub returns : goal.returns
returns c = let all = told-run c.args.x _ _ c.if-x-eq0.false c.store-2.ensures c.store_walk.ensures in record {
  value = all.0;
  walk_after = all.1.0;
  out_after = all.1.1;
}
