-- `c_steps::next` meets its contract. Assumes nothing.
use Prim.Native.Nat.{ℕ}
use mathlib.Core.Path.{subst}
use mathlib.Core.List.{List}
use Rattle.c_steps.specs.declared.Turn.{Turn}
use Rattle.c_steps.specs.Turns.{Quicks, Turns}
use Rattle.c_steps.proofs.next.Goals as goal

pub returns-in-On : goal.returns-in-On
returns-in-On c = subst (λ (z : Turn). Quicks c.args.s.now c.args.room c.args.at c.args.w c.args.out.now z c.quick.new.out) c.in-On.is c.quick.ensures

pub returns-in-Stop : goal.returns-in-Stop
returns-in-Stop c = subst (λ (z : List ℕ). Turns c.args.s.now c.args.room c.args.at c.args.w z c.any.result c.any.new.out) (subst (λ (z : Turn). Quicks c.args.s.now c.args.room c.args.at c.args.w c.args.out.now z c.quick.new.out) c.in-Stop.is c.quick.ensures) c.any.ensures
