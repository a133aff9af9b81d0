-- `walks::walk_over` meets its contract. Assumes nothing.
use Rattle.walks.proofs.walk_over.Goals as goal

pub returns-in_default : goal.returns-in_default
returns-in_default c = simp c.in_default.is

pub returns : goal.returns
returns c = simp (c.in-Some.is, c.sheet_of.ensures, c.older_on.ensures)
