-- `walks::older_on` meets its contract. Assumes nothing.
use Rattle.walks.proofs.older_on.Goals as goal

pub returns : goal.returns
returns c = simp c.sheet_of.ensures
