use mathlib.Core.Path.{sym, ap, ◌∙◌}
use Rattle.build_sources.specs.Pages.{pages_of, pages_next}
use Rattle.build_sources.proofs.pages_next.Goals as goal

pub returns-in-Got : goal.returns-in-Got
unfolding pages_next
returns-in-Got c = ap (pages_of _ _) (sym c.in-Got.is ∙ c.walk_next-st.ensures)

pub returns-in-End : goal.returns-in-End
unfolding pages_next
returns-in-End c = c.turn.ensures ∙ ap (pages_of _ _) (sym c.in-End.is ∙ c.walk_next-st.ensures)

pub returns-in-Bad : goal.returns-in-Bad
unfolding pages_next
returns-in-Bad c = ap (pages_of _ _) (sym c.in-Bad.is ∙ c.walk_next-st.ensures)
