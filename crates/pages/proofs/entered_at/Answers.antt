-- `pages::entered_at` meets its contract. Assumes nothing.
use Rattle.pages.specs.Sound.{entered}
use Rattle.pages.proofs.entered_at.Goals as goal

pub returns-in_default : goal.returns-in_default
unfolding entered
returns-in_default c = simp (← c.history_at.ensures, c.in_default.is)

pub returns : goal.returns
unfolding entered
returns c = simp (← c.history_at.ensures, c.in-Some.is)
