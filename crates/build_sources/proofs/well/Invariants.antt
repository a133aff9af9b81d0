use mathlib.Core.Path.{◌≡◌}
use Rattle.build_sources.specs.Source.{well_formed, left_of}
use Rattle.build_sources.proofs.well.Given as goal

abbrev pub invariant-loop-d : goal.invariant-loop-d
invariant-loop-d l = well_formed l.list l.footing l.c ≡ well_formed l.list l.footing l.initial.c

abbrev pub decreases-loop-d : goal.decreases-loop-d
decreases-loop-d l = left_of l.list l.footing l.c
