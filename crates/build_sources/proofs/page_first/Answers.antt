use Rattle.build_sources.specs.Pages.{page_first}
use Rattle.build_sources.proofs.page_first.Goals as goal

pub returns-in_default : goal.returns-in_default
unfolding page_first
returns-in_default c = simp (← c.whole.ensures, c.in_default.is)

pub returns-in_default-bounds_at : goal.returns-in_default-bounds_at
unfolding page_first
returns-in_default-bounds_at c = simp (← c.whole.ensures, c.in-Ok.is, ← c.bounds_at.ensures, c.in_default-bounds_at.is)

pub returns : goal.returns
unfolding page_first
returns c = simp (← c.whole.ensures, c.in-Ok.is, ← c.bounds_at.ensures, c.in-Ok-bounds_at.is)
