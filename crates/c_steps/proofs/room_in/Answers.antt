-- `c_steps::room_in` meets its contract. Assumes nothing.
use Prim.Native.Nat.{ℕ, ◌/◌}
use native.Mathlib.Omega.{arith}
use mathlib.Core.Path.{ap}
use Rattle.c_steps.specs.Steps.{room_in}
use Rattle.c_steps.proofs.Running.{room_fits}
use Rattle.c_steps.proofs.room_in.Goals as goal

pub returns : goal.returns
unfolding room_in
returns c = record {
  value = ap (λ (k : ℕ). k / 9) c.saturating_sub.ensures;
  result_bound = room_fits c.args.len (ap (λ (k : ℕ). k / 9) c.saturating_sub.ensures) (omega arith);
}
