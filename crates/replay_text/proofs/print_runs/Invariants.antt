use Rattle.std.proofs.Common.{length}
use Rattle.replay_text.proofs.Runs.{Told}
use Rattle.replay_text.proofs.print_runs.Given as goal

abbrev pub invariant-loop-b : goal.invariant-loop-b
invariant-loop-b g l = Told (g.W.Write.contents l.initial.out) (g.W.Write.contents l.out) l.s l.rest

abbrev pub decreases-loop-b : goal.decreases-loop-b
decreases-loop-b g l = length l.rest
