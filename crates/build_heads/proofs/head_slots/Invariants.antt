use lib.ListN.{take}
use Rattle.spans.specs.Span.{put}
use Rattle.build_sources.specs.Source.{entries, left_of}
use Rattle.build_image.specs.Image.{head_slots}
use Rattle.build_heads.proofs.SlotPass.{Slotting}
use Rattle.build_heads.proofs.head_slots.Given as goal

abbrev pub invariant-loop-i : goal.invariant-loop-i
invariant-loop-i l = Slotting l.initial.a l.list l.footing (put l.initial.a l.at (head_slots l.limit l.p l.first (entries l.list (take l.footing l.initial.a) l.initial.c))) l.p l.limit l.a l.c l.to l.off

abbrev pub decreases-loop-i : goal.decreases-loop-i
decreases-loop-i l = left_of l.list (take l.footing l.initial.a) l.c
