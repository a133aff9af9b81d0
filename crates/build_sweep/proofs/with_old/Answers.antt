-- `build_sweep::with_old` meets its contract. Assumes nothing.
use native.Mathlib.Omega.{arith}
use lib.Dec.{ltb, eqb}
use Rattle.build_sweep.proofs.Tallying.{one_most, remote-one_most, second_most, old-is}
use Rattle.build_sweep.proofs.with_old.Goals as goal

pub second-requires : goal.second-requires
second-requires c = c.requires.n_le_max_value

pub overflow_add-result-2 : goal.overflow_add-result-2
overflow_add-result-2 c = omega (arith, c.requires.bounded.sums, c.second.ensures, second_most c.args.t.after c.args.limit c.args.n c.requires.n_le_max_value)

pub overflow_add-result-3 : goal.overflow_add-result-3
overflow_add-result-3 c = omega (arith, c.requires.bounded.counted, c.counted_one.ensures, one_most (ltb c.args.n c.args.limit) (eqb c.args.kept.0 0))

pub overflow_add-result-4 : goal.overflow_add-result-4
overflow_add-result-4 c = omega (arith, c.requires.bounded.remotes, c.remote_one-far.ensures, remote-one_most (ltb c.args.n c.args.limit))

pub overflow_add-result-5 : goal.overflow_add-result-5
overflow_add-result-5 c = omega (arith, c.requires.bounded.aged, c.remote_one-far.ensures, remote-one_most (ltb c.args.n c.args.limit))

pub returns : goal.returns
returns c = old-is c.args.limit c.args.t c.args.n c.args.kept.0 _ _ _ c.second.ensures c.counted_one.ensures c.remote_one-far.ensures
