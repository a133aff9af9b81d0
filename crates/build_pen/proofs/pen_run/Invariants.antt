-- `build_pen::pen_run` meets its contract. Assumes nothing.
use Prim.Native.Nat.{◌-◌}
use lib.ListN.{length}
use Rattle.build_pen.specs.Places.{list_behind}
use Rattle.build_pen.proofs.RunningList.{RunningList}
use Rattle.build_pen.proofs.pen_run.Given as goal

abbrev pub invariant-loop-at : goal.invariant-loop-at
invariant-loop-at l = RunningList l.m l.list l.initial.a (list_behind l.list l.from l.bat l.blen) l.from l.initial.q l.a l.at l.kat l.klen l.q l.run l.page l.slot

abbrev pub decreases-loop-at : goal.decreases-loop-at
decreases-loop-at l = length l.list - l.at
