-- `values::index_key_size` meets its contract. Assumes nothing.
use native.Mathlib.Omega.{arith}
use mathlib.Core.Path.{ap}
use Prim.Native.Nat.{ℕ, ◌+◌}
use Rattle.lengths.proofs.Laws.{uleb-few}
use Rattle.values.specs.Keys.{index_key_size}
use Rattle.values.proofs.index_key_size.Goals as goal

pub overflow_add-result : goal.overflow_add-result
overflow_add-result c = omega (arith, c.size.ensures, uleb-few c.args.n)

pub returns : goal.returns
unfolding index_key_size
returns c = ap (λ (k : ℕ). k + c.args.n) c.size.ensures
