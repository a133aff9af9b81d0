use Rattle.std.proofs.Common.{◌≤◌, length}
use Rattle.replay_text.proofs.bytes_at.Given as goal

abbrev pub invariant-loop-rest : goal.invariant-loop-rest
invariant-loop-rest l = l.n ≤ length l.dst

abbrev pub decreases-loop-rest : goal.decreases-loop-rest
decreases-loop-rest l = length l.rest
