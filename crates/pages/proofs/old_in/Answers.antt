-- `pages::old_in` meets its contract. Assumes nothing.
use mathlib.Core.Path.{◌∙◌}
use Rattle.pages.specs.Sound.{old_in}
use Rattle.pages.proofs.old_in.Goals as goal

pub returns-in_err-r : goal.returns-in_err-r
unfolding old_in
returns-in_err-r c = c.from_residual.ensures ∙ simp (← c.rec_at.ensures, c.in_err-r.was)

pub returns : goal.returns
unfolding old_in
returns c = simp (← c.rec_at.ensures, c.in_ok-r.was)
