-- `pages::prefix` meets its contract. Assumes nothing.
use Rattle.pages.specs.Boundaries.{prefix_at}
use Rattle.pages.proofs.prefix.Goals as goal

pub returns-in_default : goal.returns-in_default
unfolding prefix_at
returns-in_default c = simp (← c.bounds_at.ensures, c.in_default.is)

pub returns : goal.returns
unfolding prefix_at
returns c = simp (← c.bounds_at.ensures, c.in-Ok.is, c.part_at.ensures)
