-- `build_pen::put_hint` meets its contract. Assumes nothing.
use Rattle.build_pen.proofs.Writing.{unhinted, hint-room, hinted}
use Rattle.build_pen.proofs.put_hint.Goals as goal

pub returns-then-n-limit : goal.returns-then-n-limit
returns-then-n-limit c = let all = unhinted _ _ _ _ _ c.if-n-limit.true in record {
  value = all.0;
  a_after = all.1;
}

pub put_u64-requires : goal.put_u64-requires
put_u64-requires c = hint-room c.args.limit c.args.remote c.args.n c.args.a.now c.args.at c.if-n-limit.false c.requires

pub returns : goal.returns
returns c = let all = hinted _ _ _ _ _ c.if-n-limit.false _ c.put_u64.ensures in record {
  value = all.0;
  a_after = all.1;
}
