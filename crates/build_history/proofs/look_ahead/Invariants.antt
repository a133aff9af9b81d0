use mathlib.Core.Bool.{true}
use lib.ListN.{length}
use Rattle.build_sources.specs.Source.{entries, only}
use Rattle.build_history.proofs.Ahead.{Looking}
use Rattle.build_history.proofs.look_ahead.Given as goal

abbrev pub invariant-loop-i : goal.invariant-loop-i
invariant-loop-i l = Looking l.list l.footing l.limit l.budget l.initial.c l.c l.n l.t l.f

abbrev pub decreases-loop-i : goal.decreases-loop-i
decreases-loop-i l = length (only true (entries l.list l.footing l.c))
