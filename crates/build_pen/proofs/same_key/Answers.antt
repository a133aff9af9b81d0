-- `build_pen::same_key` meets its contract. Assumes nothing.
use mathlib.Core.Path.{ap, ◌∙◌}
use Rattle.order.specs.Order.{is_equal}
use Rattle.build_pen.proofs.WritingList.{alike_not, alike_by}
use Rattle.build_pen.proofs.same_key.Goals as goal

pub returns-then-blen-klen : goal.returns-then-blen-klen
returns-then-blen-klen c = alike_not _ _ _ _ _ c.requires.0 c.requires.1 c.if-blen-klen.true

pub returns : goal.returns
returns c = alike_by _ _ _ _ _ c.requires.0 c.requires.1 _ _ c.bytes_of.ensures c.bytes_of-2.ensures _ (c.is_equal.ensures ∙ ap is_equal c.compare.ensures)
