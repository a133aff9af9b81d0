use mathlib.Core.Path.{ap₂}
use mathlib.Core.Bool.{Bool, ◌&&◌}
use Rattle.build_table.proofs.limits_ok.Goals as goal

pub returns : goal.returns
returns c = ap₂ (λ (x y : Bool). x && y) c.limits_ok-inline.ensures c.bounds_ok-bounds.ensures
