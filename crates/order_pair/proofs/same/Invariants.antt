use mathlib.Core.Path.{◌≡◌}
use Prim.Native.Nat.{◌*◌, ◌+◌}
use lib.ListN.{take}
use Rattle.order_pair.proofs.same.Given as goal

abbrev pub invariant-loop-k : goal.invariant-loop-k
invariant-loop-k l = take (l.from + 8 * l.k) l.a ≡ take (l.from + 8 * l.k) l.b
