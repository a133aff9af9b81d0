use Rattle.std.proofs.Common.{◌≤◌, length}
use Rattle.replay.proofs.lines.Given as goal

abbrev pub invariant-loop-n : goal.invariant-loop-n
invariant-loop-n g l = length l.rest ≤ length l.t

abbrev pub decreases-loop-n : goal.decreases-loop-n
decreases-loop-n g l = length l.rest
