use mathlib.Core.Path.{◌≡◌}
use Rattle.build_sources.specs.Source.{entries, left_of}
use Rattle.build_sources.specs.Judged.{prefixed}
use Rattle.build_sources.proofs.begins.Given as goal

abbrev pub invariant-loop-i : goal.invariant-loop-i
invariant-loop-i l = prefixed l.pre (entries l.list l.footing l.c) ≡ prefixed l.pre (entries l.list l.footing l.initial.c)

abbrev pub decreases-loop-i : goal.decreases-loop-i
decreases-loop-i l = left_of l.list l.footing l.c
