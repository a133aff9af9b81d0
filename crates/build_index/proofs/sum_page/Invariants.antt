-- `build_index::sum_page` meets its contract. Assumes nothing.
use Rattle.build_index.proofs.Children.{Counting}
use Rattle.build_index.proofs.sum_page.Given as goal

abbrev pub invariant-loop-i : goal.invariant-loop-i
invariant-loop-i l = Counting l.s l.b l.from l.end l.p l.i l.n
