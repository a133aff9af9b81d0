-- `records::key_at` meets its contract. Assumes nothing.
use mathlib.Core.Path.{◌∙◌}
use Rattle.records.specs.Records.{key_at_slot}
use Rattle.records.proofs.key_at.Goals as goal

pub returns-in_err-p : goal.returns-in_err-p
unfolding key_at_slot
returns-in_err-p c = c.from_residual.ensures ∙ simp (← c.slot_at.ensures, c.in_err-p.was)

pub returns : goal.returns
unfolding key_at_slot
returns c = simp (← c.slot_at.ensures, c.in_ok-p.was, c.short_key.ensures)
