use mathlib.Core.Bool.{true}
use lib.ListN.{length, take}
use Rattle.build_sources.specs.Source.{entries, only}
use Rattle.build_history.proofs.Page.{Histories}
use Rattle.build_history.proofs.save_hist_regions.Given as goal

abbrev pub invariant-loop-m : goal.invariant-loop-m
invariant-loop-m l = Histories l.initial.a l.list l.footing l.at l.m l.initial.c l.a l.c l.to

abbrev pub decreases-loop-m : goal.decreases-loop-m
decreases-loop-m l = length (only true (entries l.list (take l.footing l.initial.a) l.c))
