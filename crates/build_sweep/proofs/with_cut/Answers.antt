-- `build_sweep::with_cut` meets its contract. Assumes nothing.
use native.Mathlib.Omega.{arith}
use Rattle.build_image.proofs.Lengths.{remote_most, size-some}
use Rattle.build_sweep.proofs.Cutting.{more_is, next-is}
use Rattle.build_sweep.proofs.with_cut.Goals as goal

pub overflow_add-s : goal.overflow_add-s
overflow_add-s c = let z = size-some c.args.limit c.args.v in omega (arith, c.calc_size.ensures, c.requires.limit_le_max_limit.0)

pub overflow_add-s-2 : goal.overflow_add-s-2
overflow_add-s-2 c = let z = size-some c.args.limit c.args.v in omega (arith, c.calc_size.ensures, c.requires.limit_le_max_limit.0)

pub overflow_add-result-then-takes : goal.overflow_add-result-then-takes
overflow_add-result-then-takes c = let z = size-some c.args.limit c.args.v in omega (arith, c.calc_size.ensures, c.requires.limit_le_max_limit.0, c.requires.slim.size)

pub overflow_add-result-then-takes-2 : goal.overflow_add-result-then-takes-2
overflow_add-result-then-takes-2 c = omega (arith, remote_most c.args.limit c.args.v c.args.kept.0, c.remote_len-f.ensures, c.requires.limit_le_max_limit.1, c.requires.slim.remote)

pub returns-then-takes : goal.returns-then-takes
returns-then-takes c = more_is _ _ _ _ c.args.g _ _ c.calc_size.ensures c.remote_len-f.ensures _ c.takes.ensures c.if-takes.true

pub overflow_add-result-5 : goal.overflow_add-result-5
overflow_add-result-5 c = let z = size-some c.args.limit c.args.v in omega (arith, c.calc_size.ensures, c.requires.limit_le_max_limit.0)

pub returns : goal.returns
returns c = next-is _ _ _ _ c.args.g _ _ c.calc_size.ensures c.remote_len-f.ensures _ c.takes.ensures _ c.frame_len.ensures c.if-takes.false
