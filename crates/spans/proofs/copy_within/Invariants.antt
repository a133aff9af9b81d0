use Prim.Native.Nat.{◌+◌}
use mathlib.Core.Path.{◌≡◌}
use lib.ListN.{length, drop, take}
use Rattle.spans.specs.Span.{put, part}
use Rattle.spans.proofs.copy_within.Given as goal

abbrev pub invariant-loop-j : goal.invariant-loop-j
invariant-loop-j l = (length l.arena ≡ length l.initial.arena) × (put l.arena (l.to + l.j) (drop l.j (part l.initial.arena l.from l.n)) ≡ put l.initial.arena l.to (part l.initial.arena l.from l.n)) × (take l.to l.arena ≡ take l.to l.initial.arena)
