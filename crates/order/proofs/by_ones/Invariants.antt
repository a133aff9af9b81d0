use mathlib.Core.Path.{◌≡◌}
use lib.ListN.{drop}
use Rattle.order.specs.Order.{cmp_bytes}
use Rattle.order.proofs.by_ones.Given as goal

abbrev pub invariant-loop-i : goal.invariant-loop-i
invariant-loop-i l = cmp_bytes (drop l.from l.a) (drop l.from l.b) ≡ cmp_bytes (drop l.i l.a) (drop l.i l.b)
