-- `build_page_sweep::sweep_page` meets its contract. Assumes nothing.
use Rattle.build_page_sweep.proofs.Paging.{Paging}
use Rattle.build_page_sweep.proofs.sweep_page.Given as goal

abbrev pub invariant-loop-i : goal.invariant-loop-i
invariant-loop-i l = Paging l.s l.b l.end l.p l.limit l.budget l.fn.from l.initial.t l.initial.g l.i l.t l.g l.hand
