-- `overlay::page_value` meets its contract. Assumes nothing.
use Rattle.overlay.specs.Overlay.{page_value}
use Rattle.overlay.proofs.page_value.Goals as goal

pub returns-in_default : goal.returns-in_default
unfolding page_value
returns-in_default c = simp (← c.rec_at.ensures, c.in_default.is)

pub returns : goal.returns
unfolding page_value
returns c = simp (← c.rec_at.ensures, c.in-Some.is)
