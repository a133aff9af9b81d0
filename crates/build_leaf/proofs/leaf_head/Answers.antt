use native.Mathlib.Omega.{arith}
use Rattle.build_leaf.proofs.Frame.{head_end}
use Rattle.build_leaf.proofs.leaf_head.Goals as goal

pub overflow_add-payload : goal.overflow_add-payload
overflow_add-payload c = omega (arith, c.requires.small.size)

pub overflow_cast-payload : goal.overflow_cast-payload
overflow_cast-payload c = omega (arith, c.requires.small.size)

pub overflow_cast-n : goal.overflow_cast-n
overflow_cast-n c = omega (arith, c.requires.heads_le_max_entries)

pub overflow_cast-lo : goal.overflow_cast-lo
overflow_cast-lo c = omega (arith, c.requires.small.lo)

pub overflow_cast-hi : goal.overflow_cast-hi
overflow_cast-hi c = omega (arith, c.requires.small.hi)

pub overflow_cast-t : goal.overflow_cast-t
overflow_cast-t c = omega (arith, c.requires.small.size)

pub overflow_cast-e : goal.overflow_cast-e
overflow_cast-e c = omega (arith, c.requires.small.prefix)

pub page_head-requires : goal.page_head-requires
page_head-requires c = omega (arith, c.requires.slots_at_in_bounds)

pub returns : goal.returns
returns c = head_end _ _ _ _ _ _ _ _ c.one_if-many.ensures c.new-b.ensures c.page_head.ensures
