-- `build_page_ahead::fill_run` meets its contract. Assumes nothing.
use Prim.Native.Nat.{◌-◌}
use mathlib.Core.Bool.{false}
use Rattle.build_page_ahead.specs.Filled.{page_of}
use Rattle.build_page_ahead.proofs.Running.{Running}
use Rattle.build_page_ahead.proofs.fill_run.Given as goal

abbrev pub invariant-loop : goal.invariant-loop
invariant-loop l = Running l.s l.limit l.budget l.count l.initial.hand.page l.initial.slot (page_of l.initial.n l.initial.t l.initial.f false) (l.count - l.counter) l.hand l.slot l.n l.t l.f
