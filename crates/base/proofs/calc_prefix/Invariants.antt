use Rattle.base.proofs.Common.{Common}
use Rattle.base.proofs.calc_prefix.Given as goal

abbrev pub invariant-loop-k : goal.invariant-loop-k
invariant-loop-k l = Common l.lo l.hi l.k
