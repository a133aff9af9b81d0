-- `build_sweep::way_at` meets its contract. Assumes nothing.
use Rattle.build_sweep.proofs.Ents.{less_head, equal_older, equal_not, greater_falls}
use Rattle.build_sweep.proofs.way_at.Goals as goal

pub returns-then-is_newer : goal.returns-then-is_newer
returns-then-is_newer c = equal_older _ _ _ _ _ _ _ c.order_at.ensures c.in-Equal.is _ c.is_newer.ensures c.if-is_newer.true

pub returns-in-Less : goal.returns-in-Less
returns-in-Less c = less_head _ _ _ _ _ _ _ c.order_at.ensures c.in-Less.is

pub returns-else-is_newer : goal.returns-else-is_newer
returns-else-is_newer c = equal_not _ _ _ _ _ _ _ c.order_at.ensures c.in-Equal.is _ c.is_newer.ensures c.if-is_newer.false

pub returns-in-Greater : goal.returns-in-Greater
returns-in-Greater c = greater_falls _ _ _ _ _ _ _ c.order_at.ensures c.in-Greater.is
