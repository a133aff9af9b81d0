-- `asof::newer_in` meets its contract. Assumes nothing.
use Rattle.asof.specs.InHand.{Passes}
use Rattle.asof.proofs.newer_in.Given as goal

abbrev pub invariant-loop-n : goal.invariant-loop-n
invariant-loop-n l = Passes l.s l.v l.from l.n
