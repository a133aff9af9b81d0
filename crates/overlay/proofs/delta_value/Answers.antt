-- `overlay::delta_value` meets its contract. Assumes nothing.
use Rattle.std.proofs.Common.{Err, rules}
use mathlib.Core.Path.{◌∙◌, ◌≡◌}
use Rattle.overlay.specs.Overlay.{delta_value}
use Rattle.overlay.proofs.delta_value.Goals as goal

pub returns-in_err-p : goal.returns-in_err-p
unfolding delta_value
returns-in_err-p c = let refused : c.from_residual.result ≡ Err c.in_err-p.field-0.0 = search rules in
    refused ∙ simp (← c.val.ensures, c.in_err-p.was)

pub returns : goal.returns
unfolding delta_value
returns c = simp (← c.val.ensures, c.in_ok-p.was)
