use mathlib.Core.Path.{sym, ◌∙◌}
use Rattle.merge.specs.Merge.{gathered}
use Rattle.merge.proofs.Merging.{gathers_by}
use Rattle.merge.proofs.gather.Goals as goal

pub returns-in_err-c : goal.returns-in_err-c
unfolding gathered
returns-in_err-c c = c.from_residual.ensures ∙ simp (← c.open_pages.ensures, c.in_err-c.was)

pub returns-in_default : goal.returns-in_default
unfolding gathered
returns-in_default c = simp (← c.open_pages.ensures, c.in_ok-c.was, ← c.bounds_at.ensures, c.in_default.is)

pub returns-in_default-bounds_at : goal.returns-in_default-bounds_at
unfolding gathered
returns-in_default-bounds_at c = simp (← c.open_pages.ensures, c.in_ok-c.was, ← c.bounds_at.ensures, c.in-Ok.is, ← c.bounds_at-2.ensures, c.in_default-bounds_at.is)

pub returns : goal.returns
returns c = gathers_by _ _ _ _ _ _ (sym c.open_pages.ensures ∙ c.in_ok-c.was) (sym c.bounds_at.ensures ∙ c.in-Ok.is) (sym c.bounds_at-2.ensures ∙ c.in-Ok-bounds_at.is) _ _ _ c.part_of.ensures c.part_of-2.ensures c.calc_prefix-n.ensures
