-- `overlay::answer` meets its contract. Assumes nothing.
use Rattle.std.proofs.Common.{Err, rules}
use mathlib.Core.Path.{◌∙◌, ◌≡◌}
use Rattle.overlay.specs.Overlay.{laid_at}
use Rattle.overlay.proofs.answer.Goals as goal

pub returns-in_err-k : goal.returns-in_err-k
unfolding laid_at
returns-in_err-k c = let refused : c.from_residual.result ≡ Err c.in_err-k.field-0.0 = search rules in
    refused ∙ simp (← c.key.ensures, c.in_err-k.was)

pub returns : goal.returns
unfolding laid_at
returns c = simp (← c.key.ensures, c.in_ok-k.was, c.laid_by.ensures, c.is_probe-mine.ensures)
