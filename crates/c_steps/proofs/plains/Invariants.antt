-- `c_steps::plains` meets its contract. Assumes nothing.
use Rattle.c_steps.proofs.Heading.{Heading}
use Rattle.c_steps.proofs.plains.Given as goal

abbrev pub invariant-loop-n : goal.invariant-loop-n
invariant-loop-n l =
    Heading l.s l.w l.initial.out l.first l.room l.b l.most l.out l.at l.pos l.key_at l.key_len l.n
