-- `delta::lengths_ok` meets its contract. Assumes nothing.
use mathlib.Core.Path.{refl}
use Rattle.delta.specs.Built.{pair_ok}
use Rattle.delta.proofs.lengths_ok.Goals as goal

pub returns : goal.returns
unfolding pair_ok
returns c = refl
