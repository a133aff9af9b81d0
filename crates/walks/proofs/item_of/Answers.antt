-- `walks::item_of` meets its contract. Assumes nothing.
use Rattle.walks.specs.Walk.{item_of}
use Rattle.walks.proofs.item_of.Goals as goal

pub returns : goal.returns
unfolding item_of
returns c = simp c.ver_at.ensures
