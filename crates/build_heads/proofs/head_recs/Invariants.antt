use Prim.Native.Nat.{◌+◌}
use lib.ListN.{length, take}
use Rattle.spans.specs.Span.{put}
use Rattle.build_sources.specs.Source.{entries, left_of, olds}
use Rattle.build_image.specs.Image.{head_recs, places, cuts_of}
use Rattle.build_heads.proofs.HeadPass.{Recording}
use Rattle.build_heads.proofs.head_recs.Given as goal

abbrev pub invariant-loop-i : goal.invariant-loop-i
invariant-loop-i l = Recording l.initial.a l.list l.footing (put l.initial.a l.at (head_recs l.m.limit l.p l.remote (places l.m.limit l.first (cuts_of l.m (entries l.list (take l.footing l.initial.a) l.initial.c)) (olds (entries l.list (take l.footing l.initial.a) l.initial.c))) (entries l.list (take l.footing l.initial.a) l.initial.c))) l.p l.m (l.at + length (head_recs l.m.limit l.p l.remote (places l.m.limit l.first (cuts_of l.m (entries l.list (take l.footing l.initial.a) l.initial.c)) (olds (entries l.list (take l.footing l.initial.a) l.initial.c))) (entries l.list (take l.footing l.initial.a) l.initial.c))) l.a l.c l.to l.next l.loc

abbrev pub decreases-loop-i : goal.decreases-loop-i
decreases-loop-i l = left_of l.list (take l.footing l.initial.a) l.c
