use mathlib.Core.Path.{◌≡◌}
use Rattle.build_sources.specs.Source.{entries, only, left_of}
use Rattle.build_sources.proofs.next_of.Given as goal

abbrev pub invariant-loop-i : goal.invariant-loop-i
invariant-loop-i l = only l.want (entries l.list l.footing l.c) ≡ only l.want (entries l.list l.footing l.initial.c)

abbrev pub decreases-loop-i : goal.decreases-loop-i
decreases-loop-i l = left_of l.list l.footing l.c
