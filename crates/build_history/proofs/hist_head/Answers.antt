use Rattle.build_history.proofs.Straight.{heads-end}
use Rattle.build_history.proofs.hist_head.Goals as goal

pub returns : goal.returns
returns c = heads-end _ _ _ _ _ _ _ _ c.new-b.ensures c.page_head.ensures
