-- `build_totals::tally_up` meets its contract. Assumes nothing.
use Rattle.build_sources.specs.Source.{left_of}
use Rattle.build_totals.proofs.Tallying.{Tallying}
use Rattle.build_totals.proofs.tally_up.Given as goal

abbrev pub invariant-loop-i : goal.invariant-loop-i
invariant-loop-i l = Tallying l.list l.footing l.limit l.p l.initial.c l.c l.t

abbrev pub decreases-loop-i : goal.decreases-loop-i
decreases-loop-i l = left_of l.list l.footing l.c
