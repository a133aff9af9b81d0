use mathlib.Core.Path.{◌≡◌}
use Prim.Native.Nat.{◌+◌, ◌≤◌}
use lib.ListN.{length}
use Rattle.spans.specs.Span.{put}
use Rattle.lengths.specs.Leb128.{uleb}
use Rattle.lengths.proofs.store.Given as goal

abbrev pub invariant-loop-n : goal.invariant-loop-n
invariant-loop-n l = (l.n ≤ l.x) × (length l.buf ≡ length l.initial.buf) × (l.i + length (uleb l.n) ≡ l.at + length (uleb l.x)) × (put l.buf l.i (uleb l.n) ≡ put l.initial.buf l.at (uleb l.x))

abbrev pub decreases-loop-n : goal.decreases-loop-n
decreases-loop-n l = l.n
