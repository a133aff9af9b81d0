-- `build_pen::ahead` meets its contract. Assumes nothing.
use Prim.Native.Nat.{◌-◌}
use lib.ListN.{length}
use Rattle.build_pen.proofs.Peering.{Peering}
use Rattle.build_pen.proofs.ahead.Given as goal

abbrev pub invariant-loop-at : goal.invariant-loop-at
invariant-loop-at l = Peering l.list l.limit l.budget l.from l.bat l.blen l.at l.kat l.klen l.n l.t l.f

abbrev pub decreases-loop-at : goal.decreases-loop-at
decreases-loop-at l = length l.list - l.at
