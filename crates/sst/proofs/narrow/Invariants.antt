use Prim.Native.Nat.{◌-◌}
use Rattle.sst.specs.declared.Want.{Want}
use Rattle.sst.specs.Search.{key_cmp}
use Rattle.sst.specs.Narrow.{Goes}
use Rattle.sst.proofs.narrow.Given as goal

abbrev pub invariant-loop-lo : goal.invariant-loop-lo
invariant-loop-lo l = (w : Want) → Goes (key_cmp l.s l.b l.rest w) l.b.elems l.initial.lo l.initial.hi l.initial.reads l.lo l.hi l.reads

abbrev pub decreases-loop-lo : goal.decreases-loop-lo
decreases-loop-lo l = l.hi - l.lo
