use mathlib.Core.Bool.{true}
use lib.ListN.{length}
use Rattle.build_sources.specs.Source.{entries, only}
use Rattle.build_totals.proofs.Paged.{Paging}
use Rattle.build_totals.proofs.count_pages.Given as goal

abbrev pub invariant-loop-s : goal.invariant-loop-s
invariant-loop-s l = Paging l.list l.footing l.limit l.budget l.at l.initial.c l.c l.n l.to

abbrev pub decreases-loop-s : goal.decreases-loop-s
decreases-loop-s l = length (only true (entries l.list l.footing l.c))
