-- `build_index::pen_page` meets its contract. Assumes nothing.
use Prim.Native.Nat.{◌+◌, ◌-◌}
use lib.ListN.{take}
use Rattle.build_image.specs.Image.{index_sums}
use Rattle.law_rows.specs.Rows.{index_entries}
use Rattle.build_pen.specs.Stretches.{draws}
use Rattle.build_index.specs.Laid.{index_left}
use Rattle.build_index.proofs.PagePen.{Walking}
use Rattle.build_index.proofs.pen_page.Given as goal

abbrev pub invariant-loop-i : goal.invariant-loop-i
invariant-loop-i l = Walking l.initial.a l.next (draws l.initial.a (index_left l.slots l.recs l.base l.p (index_entries (take l.next l.initial.a) l.b (l.end - l.from) l.from))) l.b l.end l.base l.p (l.recs + index_sums l.p (index_entries (take l.next l.initial.a) l.b (l.end - l.from) l.from)) l.a l.i l.slot l.rec
