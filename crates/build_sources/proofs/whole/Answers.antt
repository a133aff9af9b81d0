use mathlib.Core.Path.{sym, ap, ◌∙◌}
use Rattle.build_sources.specs.Pages.{whole_of, whole_at}
use Rattle.build_sources.proofs.whole.Goals as goal

pub returns-in_default : goal.returns-in_default
unfolding whole_at
returns-in_default c = ap (whole_of _ _) (sym c.in_default.is ∙ c.open_at.ensures)

pub returns : goal.returns
unfolding whole_at
returns c = c.forward.ensures ∙ ap (whole_of _ _) (sym c.in-Some.is ∙ c.open_at.ensures)
