use Rattle.std.proofs.Common.{◌≤◌, length}
use Rattle.replay.proofs.rounds.Given as goal

abbrev pub invariant-loop : goal.invariant-loop
invariant-loop g l = l.left ≤ length l.buf
