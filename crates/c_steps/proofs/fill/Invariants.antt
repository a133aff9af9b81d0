-- `c_steps::fill` meets its contract. Assumes nothing.
use Prim.Native.Nat.{◌-◌}
use Rattle.c_steps.specs.Turns.{Filling, KnownOlder}
use Rattle.c_steps.proofs.fill.Given as goal

abbrev pub invariant-loop-k : goal.invariant-loop-k
invariant-loop-k l = Filling l.s l.room l.first l.initial.w l.initial.out l.w l.at l.k l.out × KnownOlder l.s l.known l.w.older

abbrev pub decreases-loop-k : goal.decreases-loop-k
decreases-loop-k l = l.room - l.k
