use Rattle.build_sources.proofs.Judging.{above-less, above_equal, above_greater}
use Rattle.build_sources.proofs.is_above.Goals as goal

pub returns-in-Less : goal.returns-in-Less
returns-in-Less c = above-less _ _ _ _ _ c.compare_items.ensures c.in-Less.is

pub returns-in-Equal : goal.returns-in-Equal
returns-in-Equal c = above_equal _ _ _ _ _ c.compare_items.ensures c.in-Equal.is _ c.newer.ensures

pub returns-in-Greater : goal.returns-in-Greater
returns-in-Greater c = above_greater _ _ _ _ _ c.compare_items.ensures c.in-Greater.is
