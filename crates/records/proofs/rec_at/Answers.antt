-- `records::rec_at` meets its contract. Assumes nothing.
use mathlib.Core.Path.{◌∙◌}
use Rattle.records.specs.Records.{rec_at}
use Rattle.records.proofs.rec_at.Goals as goal

pub returns-in_err-p : goal.returns-in_err-p
unfolding rec_at
returns-in_err-p c = c.from_residual.ensures ∙ simp (← c.slot_at.ensures, c.in_err-p.was)

pub returns : goal.returns
unfolding rec_at
returns c = simp (← c.slot_at.ensures, c.in_ok-p.was, c.rec_in.ensures)
