use Prim.Native.Nat.{◌*◌}
use mathlib.Core.Path.{◌≡◌}
use lib.ListN.{drop}
use Rattle.order.specs.Order.{cmp_bytes}
use Rattle.order.proofs.compare.Given as goal

abbrev pub invariant-loop-k : goal.invariant-loop-k
invariant-loop-k l = cmp_bytes l.a l.b ≡ cmp_bytes (drop (8 * l.k) l.a) (drop (8 * l.k) l.b)
