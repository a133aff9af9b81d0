-- `build_page_pen::pen_run` meets its contract. Assumes nothing.
use Prim.Native.Nat.{◌-◌}
use Rattle.build_page_pen.proofs.Turns.{PageRun}
use Rattle.build_page_pen.proofs.pen_run.Given as goal

abbrev pub invariant-loop-done : goal.invariant-loop-done
invariant-loop-done l = PageRun l.initial.a l.next l.m l.h l.rest l.initial.q l.a (l.h.count - l.done) l.q l.hand l.at l.page l.slot
