-- `delta::index_len` meets its contract. Assumes nothing.
use native.Mathlib.Omega.{arith}
use Rattle.delta.specs.Deltas.{index_len}
use Rattle.delta.proofs.Lengths.{index_key_most}
use Rattle.delta.proofs.index_len.Goals as goal

pub overflow_add-k : goal.overflow_add-k
overflow_add-k c = omega (arith, c.index_key_size-k.ensures, index_key_most c.args.key)

pub overflow_add-k-2 : goal.overflow_add-k-2
overflow_add-k-2 c = omega (arith, c.index_key_size-k.ensures, index_key_most c.args.key)

pub overflow_cast-k : goal.overflow_cast-k
overflow_cast-k c = omega (arith, c.index_key_size-k.ensures, index_key_most c.args.key)

pub returns : goal.returns
unfolding index_len
returns c = simp (c.frame_len.ensures, c.index_key_size-k.ensures)
