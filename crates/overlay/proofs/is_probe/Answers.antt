-- `overlay::is_probe` meets its contract. Assumes nothing.
use Rattle.overlay.specs.Overlay.{is_probe}
use Rattle.overlay.proofs.is_probe.Goals as goal

pub returns : goal.returns
unfolding is_probe
returns c = simp (← c.part_at.ensures, ← c.compare.ensures, c.is_equal.ensures)
