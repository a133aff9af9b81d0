-- `delta::leaf_len` meets its contract. Assumes nothing.
use native.Mathlib.Omega.{arith}
use Rattle.build_image.proofs.Lengths.{size-some}
use Rattle.delta.specs.Deltas.{leaf_len}
use Rattle.delta.proofs.Lengths.{leaf_key_most}
use Rattle.delta.proofs.leaf_len.Goals as goal

pub overflow_add-k : goal.overflow_add-k
overflow_add-k c = omega (arith, c.leaf_key_size-k.ensures, leaf_key_most c.args.key)

pub overflow_add-k-2 : goal.overflow_add-k-2
overflow_add-k-2 c = omega (arith, c.leaf_key_size-k.ensures, leaf_key_most c.args.key, c.calc_size-v.ensures, (size-some c.args.limit c.args.value).1)

pub overflow_cast-k : goal.overflow_cast-k
overflow_cast-k c = omega (arith, c.leaf_key_size-k.ensures, leaf_key_most c.args.key, c.calc_size-v.ensures, (size-some c.args.limit c.args.value).1)

pub returns : goal.returns
unfolding leaf_len
returns c = simp (c.frame_len.ensures, c.leaf_key_size-k.ensures, c.calc_size-v.ensures)
