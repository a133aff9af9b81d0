use Prim.Native.Nat.{◌-◌}
use Rattle.sst.specs.Search.{key_cmp}
use Rattle.sst.specs.Narrow.{Goes}
use Rattle.sst.proofs.halve_keys.Given as goal

abbrev pub invariant-loop-lo : goal.invariant-loop-lo
invariant-loop-lo l = Goes (key_cmp l.s l.b l.rest l.w) l.b.elems 0 l.b.elems 0 l.lo l.hi l.reads

abbrev pub decreases-loop-lo : goal.decreases-loop-lo
decreases-loop-lo l = l.hi - l.lo
