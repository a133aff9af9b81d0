-- `walks::Walk::behind` meets its contract. Assumes nothing.
use mathlib.Core.Path.{refl}
use Rattle.walks.specs.Walk.{behind_of}
use Rattle.walks.proofs.Walk.behind.Goals as goal

pub returns : goal.returns
unfolding behind_of
returns c = refl
