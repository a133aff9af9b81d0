use Prim.Native.Nat.{◌+◌}
use mathlib.Core.Path.{◌≡◌}
use lib.ListN.{length, drop}
use Rattle.spans.specs.Span.{put}
use Rattle.spans.proofs.copy.Given as goal

abbrev pub invariant-loop-j : goal.invariant-loop-j
invariant-loop-j l = (length l.dst ≡ length l.initial.dst) × (put l.dst (l.at + l.j) (drop l.j l.src) ≡ put l.initial.dst l.at l.src)
