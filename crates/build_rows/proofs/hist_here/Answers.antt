-- `build_rows::hist_here` meets its contract. Assumes nothing.
use native.Mathlib.Omega.{arith}
use Rattle.build_rows.specs.Fields.{hist_at}
use Rattle.build_rows.proofs.hist_here.Goals as goal

pub read_u64-requires : goal.read_u64-requires
read_u64-requires c = omega (arith, c.requires c.if-has.true)

pub overflow_add-at : goal.overflow_add-at
overflow_add-at c = omega (arith, c.requires c.if-has.true)

pub read_u16-requires : goal.read_u16-requires
read_u16-requires c = omega (arith, c.requires c.if-has.true)

pub overflow_add-at-then-has : goal.overflow_add-at-then-has
overflow_add-at-then-has c = omega (arith, c.requires c.if-has.true)

pub read_u32-requires : goal.read_u32-requires
read_u32-requires c = omega (arith, c.requires c.if-has.true)

pub returns-then-has : goal.returns-then-has
unfolding hist_at
returns-then-has c = rw (c.if-has.true, c.read_u64.ensures, c.read_u16.ensures, c.read_u32.ensures)

pub returns : goal.returns
unfolding hist_at
returns c = rw c.if-has.false
