-- `build_index::pen_list` meets its contract. Assumes nothing.
use Prim.Native.Nat.{◌-◌}
use lib.ListN.{length}
use Rattle.build_sweep.specs.Swept.{listed}
use Rattle.build_pen.specs.Stretches.{draws}
use Rattle.build_index.specs.Laid.{index_left}
use Rattle.build_index.proofs.Listed.{Reading}
use Rattle.build_index.proofs.pen_list.Given as goal

abbrev pub invariant-loop-at : goal.invariant-loop-at
invariant-loop-at l = Reading l.initial.a l.list (draws l.initial.a (index_left l.slots l.recs l.base l.p (listed l.list 1))) l.base l.p l.a l.at l.slot l.rec

abbrev pub decreases-loop-at : goal.decreases-loop-at
decreases-loop-at l = length l.list - l.at
