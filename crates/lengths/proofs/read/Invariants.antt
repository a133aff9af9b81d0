use mathlib.Core.Path.{◌≡◌}
use Prim.Native.Nat.{◌+◌, ◌-◌, ◌<◌, ◌≤◌}
use lib.ListN.{drop, length}
use Rattle.lengths.specs.Leb128.{read_len, within, carry, dec}
use Rattle.lengths.proofs.Laws.{weight}
use Rattle.lengths.proofs.read.Given as goal

abbrev pub invariant-loop-k : goal.invariant-loop-k
invariant-loop-k l = (l.p ≡ weight (5 - l.k)) × (l.v < l.p) × (l.at + l.k ≤ length l.s) × (read_len l.s l.at ≡ within (carry l.v l.p (dec (5 - l.k) (drop (l.at + l.k) l.s) (l.at + l.k))))
