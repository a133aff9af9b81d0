-- `build_page_pen::pen_page` meets its contract. Assumes nothing.
use lib.ListN.{take}
use Rattle.build_page_pen.specs.Runs.{recs_end, left_of}
use Rattle.build_page_pen.proofs.Leaves.{page_left, PagePen}
use Rattle.build_page_pen.proofs.pen_page.Given as goal

abbrev pub invariant-loop-i : goal.invariant-loop-i
invariant-loop-i l = PagePen l.initial.a l.next l.b l.end l.then l.count l.base l.m l.p (left_of l.m (record { pen = l.initial.q; nib = l.initial.n; hint = l.initial.hint }) l.base l.p (page_left (take l.next l.initial.a) l.b l.end l.from l.then l.count) l.initial.a) (recs_end l.m l.p (record { pen = l.initial.q; nib = l.initial.n; hint = l.initial.hint }) (page_left (take l.next l.initial.a) l.b l.end l.from l.then l.count)) l.a l.i l.q l.n l.hint l.hand
