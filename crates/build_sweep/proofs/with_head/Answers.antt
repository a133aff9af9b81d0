-- `build_sweep::with_head` meets its contract. Assumes nothing.
use native.Mathlib.Omega.{arith}
use Prim.Native.Nat.{◌-◌}
use mathlib.Core.Bool.{false}
use lib.Dec.{ltb, eqb}
use Rattle.build_image.proofs.Lengths.{remote_most, key_most, size_most}
use Rattle.build_sweep.proofs.Tallying.{one_most, remote-one_most, head_is_lem, key_by}
use Rattle.build_sweep.proofs.with_head.Goals as goal

pub overflow_add-result-2 : goal.overflow_add-result-2
overflow_add-result-2 c = omega (arith, key_most c.args.p c.args.k, key_by c.args.p c.args.k _ _ c.less.ensures c.leaf_key_size-key.ensures, c.requires.k_le_max_key, c.calc_size.ensures, size_most false c.args.limit c.args.n c.requires.n_le_max_value)

pub overflow_add-result-3 : goal.overflow_add-result-3
overflow_add-result-3 c = omega (arith, c.requires.bounded.sums, key_most c.args.p c.args.k, key_by c.args.p c.args.k _ _ c.less.ensures c.leaf_key_size-key.ensures, c.requires.k_le_max_key, c.calc_size.ensures, size_most false c.args.limit c.args.n c.requires.n_le_max_value)

pub overflow_add-result-4 : goal.overflow_add-result-4
overflow_add-result-4 c = omega (arith, c.requires.bounded.counted, c.counted_one.ensures, one_most (ltb c.args.n c.args.limit) (eqb c.args.kept.0 0))

pub overflow_add-result-5 : goal.overflow_add-result-5
overflow_add-result-5 c = omega (arith, c.requires.bounded.remotes, c.remote_one.ensures, remote-one_most (ltb c.args.n c.args.limit))

pub overflow_add-result-6 : goal.overflow_add-result-6
overflow_add-result-6 c = omega (arith, c.requires.bounded.remote, c.remote_len.ensures, remote_most c.args.limit c.args.n c.args.kept.0, c.requires.n_le_max_value)

pub returns : goal.returns
returns c = head_is_lem c.args.limit c.args.p c.args.t c.args.k c.args.n c.args.kept.0 _ _ _ _ _ (key_by c.args.p c.args.k _ _ c.less.ensures c.leaf_key_size-key.ensures) c.calc_size.ensures c.counted_one.ensures c.remote_one.ensures c.remote_len.ensures
