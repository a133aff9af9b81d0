use lib.ListN.{take}
use Rattle.spans.specs.Span.{put}
use Rattle.build_sources.specs.Source.{entries, left_of}
use Rattle.build_image.specs.Image.{index_slots}
use Rattle.build_index.proofs.Passes.{Slotting}
use Rattle.build_index.proofs.index_slots.Given as goal

abbrev pub invariant-loop-i : goal.invariant-loop-i
invariant-loop-i l = Slotting l.initial.a l.list l.footing (put l.initial.a l.at (index_slots l.p l.first (entries l.list (take l.footing l.initial.a) l.initial.c))) l.p l.a l.c l.to l.off

abbrev pub decreases-loop-i : goal.decreases-loop-i
decreases-loop-i l = left_of l.list (take l.footing l.initial.a) l.c
