use Rattle.build_sources.specs.Source.{left_of}
use Rattle.build_index.proofs.Passes.{Summing}
use Rattle.build_index.proofs.index_sums.Given as goal

abbrev pub invariant-loop-i : goal.invariant-loop-i
invariant-loop-i l = Summing l.list l.footing l.p l.initial.c l.c l.n

abbrev pub decreases-loop-i : goal.decreases-loop-i
decreases-loop-i l = left_of l.list l.footing l.c
