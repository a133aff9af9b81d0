-- `build_sources::rises_from` meets its contract. Assumes nothing.
use Rattle.build_sources.specs.Source.{entry_of, left_of}
use Rattle.build_sources.proofs.Judging.{Rising}
use Rattle.build_sources.proofs.rises_from.Given as goal

abbrev pub invariant-loop-i : goal.invariant-loop-i
invariant-loop-i l = Rising l.list l.footing (entry_of l.list l.footing l.initial.last) l.initial.c (entry_of l.list l.footing l.last) l.c l.n

abbrev pub decreases-loop-i : goal.decreases-loop-i
decreases-loop-i l = left_of l.list l.footing l.c
