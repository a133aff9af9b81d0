-- `walks::Walk::on` meets its contract. Assumes nothing.
use Rattle.walks.specs.Walk.{moved_of, on_of}
use Rattle.walks.proofs.Walk.on.Goals as goal

pub returns : goal.returns
unfolding moved_of on_of
returns c = simp c.onward.ensures
