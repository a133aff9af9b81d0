-- `pages::lo` meets its contract. Assumes nothing.
use Rattle.pages.specs.Boundaries.{lo_at}
use Rattle.pages.proofs.lo.Goals as goal

pub returns-in_default : goal.returns-in_default
unfolding lo_at
returns-in_default c = simp (← c.bounds_at.ensures, c.in_default.is)

pub returns : goal.returns
unfolding lo_at
returns c = simp (← c.bounds_at.ensures, c.in-Ok.is, c.part_at.ensures)
