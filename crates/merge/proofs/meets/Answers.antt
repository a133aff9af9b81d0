-- `merge::meets` meets its contract. Assumes nothing.
use mathlib.Core.Path.{ap₂, ◌∙◌}
use Rattle.order.specs.Bounds.{meet}
use Rattle.merge.proofs.meets.Goals as goal

pub returns : goal.returns
returns c = c.meets.ensures ∙ ap₂ meet c.hi.ensures c.lo.ensures
