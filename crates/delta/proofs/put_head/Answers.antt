-- `delta::put_head` meets its contract. Assumes nothing.
use Rattle.delta.proofs.Straight.{head_end}
use Rattle.delta.proofs.put_head.Goals as goal

pub returns : goal.returns
returns c = head_end c.args.a.now c.args.at c.args.m c.args.node c.args.k c.args.v _ _ _ c.put_box.ensures c.put_u32.ensures c.put_u32-2.ensures
