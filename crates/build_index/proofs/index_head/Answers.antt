use Rattle.build_index.proofs.Page.{heads-end}
use Rattle.build_index.proofs.index_head.Goals as goal

pub returns : goal.returns
returns c = heads-end _ _ _ _ _ _ _ _ _ _ _ c.new-b.ensures c.page_head.ensures
