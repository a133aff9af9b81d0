-- `build_page_sweep::sweep_run` meets its contract. Assumes nothing.
use Prim.Native.Nat.{◌-◌}
use Rattle.build_page_sweep.proofs.Running.{Running}
use Rattle.build_page_sweep.proofs.sweep_run.Given as goal

abbrev pub invariant-loop : goal.invariant-loop
invariant-loop l = Running l.s l.limit l.budget l.fn.h.count l.initial.hand.page l.initial.slot l.initial.t l.initial.g (l.fn.h.count - l.counter) l.hand l.slot l.t l.g
