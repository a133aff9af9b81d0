use lib.ListN.{take}
use Rattle.spans.specs.Span.{put}
use Rattle.build_sources.specs.Source.{entries, left_of}
use Rattle.build_image.specs.Image.{index_recs}
use Rattle.build_index.proofs.Passes.{Recording}
use Rattle.build_index.proofs.index_recs.Given as goal

abbrev pub invariant-loop-i : goal.invariant-loop-i
invariant-loop-i l = Recording l.initial.a l.list l.footing (put l.initial.a l.at (index_recs l.p (entries l.list (take l.footing l.initial.a) l.initial.c))) l.p l.a l.c l.to

abbrev pub decreases-loop-i : goal.decreases-loop-i
decreases-loop-i l = left_of l.list (take l.footing l.initial.a) l.c
