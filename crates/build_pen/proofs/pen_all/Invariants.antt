-- `build_pen::pen_all` meets its contract. Assumes nothing.
use Prim.Native.Nat.{◌+◌, ◌-◌}
use lib.ListN.{length}
use Rattle.build_sources.specs.Source.{olds}
use Rattle.build_image.specs.Image.{head_recs}
use Rattle.build_heads.specs.Located.{places_at}
use Rattle.build_pen.specs.Stretches.{draws}
use Rattle.build_pen.specs.Places.{list_from}
use Rattle.build_pen.specs.Pens.{all_left}
use Rattle.build_pen.proofs.PenningList.{PenningList}
use Rattle.build_pen.proofs.pen_all.Given as goal

abbrev pub invariant-loop-at : goal.invariant-loop-at
invariant-loop-at l = PenningList l.initial.a l.list (draws l.initial.a (all_left l.m l.initial.q l.initial.n l.hints l.base l.p (list_from l.list l.from))) l.m l.base l.p (length l.initial.a) (l.initial.n.rec + length (head_recs l.m.limit l.p l.initial.n.remote (places_at l.m.limit l.m.budget l.initial.q.loc (olds (list_from l.list l.from))) (list_from l.list l.from))) l.a l.at l.q l.n l.hint

abbrev pub decreases-loop-at : goal.decreases-loop-at
decreases-loop-at l = length l.list - l.at
