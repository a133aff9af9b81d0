-- `c_steps::olds` meets its contract. Assumes nothing.
use Rattle.c_steps.proofs.Ways.{Olding}
use Rattle.c_steps.proofs.olds.Given as goal

abbrev pub invariant-loop-n : goal.invariant-loop-n
invariant-loop-n l = Olding l.s l.w l.initial.out l.first l.room l.b l.most l.out l.at l.n
