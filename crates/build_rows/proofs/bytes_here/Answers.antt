-- `build_rows::bytes_here` meets its contract. Assumes nothing.
use native.Mathlib.Omega.{arith}
use Rattle.build_rows.specs.Fields.{bytes_at}
use Rattle.build_rows.proofs.bytes_here.Goals as goal

pub read_u64-a-requires : goal.read_u64-a-requires
read_u64-a-requires c = omega (arith, c.requires.address c.if-far.true)

pub overflow_add-result : goal.overflow_add-result
overflow_add-result c = omega (arith, c.requires.frame c.if-far.true, c.read_u64-a.ensures)

pub returns-then-far : goal.returns-then-far
unfolding bytes_at
returns-then-far c = rw (c.if-far.true, c.read_u32-n.ensures, c.read_u64-a.ensures)

pub returns : goal.returns
unfolding bytes_at
returns c = rw (c.if-far.false, c.read_u32-n.ensures)
