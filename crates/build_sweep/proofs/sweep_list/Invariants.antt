-- `build_sweep::sweep_list` meets its contract. Assumes nothing.
use Prim.Native.Nat.{◌-◌}
use lib.ListN.{length}
use Rattle.build_sweep.proofs.Listing.{Lists}
use Rattle.build_sweep.proofs.sweep_list.Given as goal

abbrev pub invariant-loop-at : goal.invariant-loop-at
invariant-loop-at l = Lists l.list l.p l.next l.limit l.budget l.at l.seen l.kat l.klen l.t l.g

abbrev pub decreases-loop-at : goal.decreases-loop-at
decreases-loop-at l = length l.list - l.at
