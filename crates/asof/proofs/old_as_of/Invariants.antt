-- `asof::old_as_of` meets its contract. Assumes nothing.
use mathlib.Core.Path.{◌≡◌}
use Rattle.asof.specs.AsOf.{old_as_of}
use Rattle.asof.proofs.old_as_of.Given as goal

abbrev pub invariant-loop-ver : goal.invariant-loop-ver
invariant-loop-ver l = old_as_of l.s l.v l.slot l.reads l.older.left l.older ≡ old_as_of l.s l.v l.slot l.reads l.initial.older.left l.initial.older

abbrev pub decreases-loop-ver : goal.decreases-loop-ver
decreases-loop-ver l = l.older.left
