-- `build_sweep::order_at` meets its contract. Assumes nothing.
use Rattle.build_sweep.proofs.Ents.{order_seen, order_none}
use Rattle.build_sweep.proofs.order_at.Goals as goal

pub returns-then-seen : goal.returns-then-seen
returns-then-seen c = order_seen c.args.s.now _ _ _ _ _ c.if-seen.true _ _ c.key_of.ensures c.key_of-then-seen.ensures _ c.compare.ensures

pub returns : goal.returns
returns c = order_none c.args.s.now c.args.seen c.args.bat c.args.blen c.args.kat c.args.klen c.if-seen.false
