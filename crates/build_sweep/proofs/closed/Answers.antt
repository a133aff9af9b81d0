-- `build_sweep::closed` meets its contract. Assumes nothing.
use Rattle.build_sweep.proofs.Cutting.{closed_none, closed_some}
use Rattle.build_sweep.proofs.closed.Goals as goal

pub returns-then-g-eq0 : goal.returns-then-g-eq0
returns-then-g-eq0 c = closed_none c.args.g c.if-g-eq0.true

pub returns : goal.returns
returns c = closed_some c.args.g _ c.frame_len.ensures c.if-g-eq0.false
