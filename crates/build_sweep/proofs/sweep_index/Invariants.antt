-- `build_sweep::sweep_index` meets its contract. Assumes nothing.
use Prim.Native.Nat.{◌-◌}
use lib.ListN.{length}
use Rattle.build_sweep.proofs.Indexing.{Indexes}
use Rattle.build_sweep.proofs.sweep_index.Given as goal

abbrev pub invariant-loop-at : goal.invariant-loop-at
invariant-loop-at l = Indexes l.list l.p l.at l.seen l.kat l.klen l.n l.sums

abbrev pub decreases-loop-at : goal.decreases-loop-at
decreases-loop-at l = length l.list - l.at
