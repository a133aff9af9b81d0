use Rattle.sst.specs.Search.{elsewhere}
use Rattle.sst.proofs.elsewhere_in.Goals as goal

pub returns-in-Less : goal.returns-in-Less
unfolding elsewhere
returns-in-Less c = simp (← c.prefix_of.ensures, ← c.compare.ensures, c.in-Less.is)

pub returns-in-Equal : goal.returns-in-Equal
unfolding elsewhere
returns-in-Equal c = simp (← c.prefix_of.ensures, ← c.compare.ensures, c.in-Equal.is)

pub returns-in-Greater : goal.returns-in-Greater
unfolding elsewhere
returns-in-Greater c = simp (← c.prefix_of.ensures, ← c.compare.ensures, c.in-Greater.is)
