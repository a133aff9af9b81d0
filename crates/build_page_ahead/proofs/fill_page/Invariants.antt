-- `build_page_ahead::fill_page` meets its contract. Assumes nothing.
use Rattle.build_page_ahead.proofs.Paging.{Paging}
use Rattle.build_page_ahead.proofs.fill_page.Given as goal

abbrev pub invariant-loop-i : goal.invariant-loop-i
invariant-loop-i l = Paging l.s l.b l.end l.limit l.budget l.fn.from l.initial.x.run l.i l.x
