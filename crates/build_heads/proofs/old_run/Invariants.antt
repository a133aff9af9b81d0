use Rattle.build_sources.specs.Source.{left_of}
use Rattle.build_heads.proofs.Runs.{Running}
use Rattle.build_heads.proofs.old_run.Given as goal

abbrev pub invariant-loop-i : goal.invariant-loop-i
invariant-loop-i l = Running l.list l.footing l.initial.c l.c l.n

abbrev pub decreases-loop-i : goal.decreases-loop-i
decreases-loop-i l = left_of l.list l.footing l.c
