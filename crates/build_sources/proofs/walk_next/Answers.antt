use borrow.Author.Tests.{le-leb, lt-leb}
use mathlib.Core.Path.{sym, ap, ◌∙◌}
use Rattle.std.proofs.Common.{Ok}
use Rattle.build_sources.specs.Pages.{walked_of, walked}
use Rattle.build_sources.proofs.walk_next.Goals as goal

pub returns-then-w-gt-MAX_ENTRIES : goal.returns-then-w-gt-MAX_ENTRIES
unfolding walked
returns-then-w-gt-MAX_ENTRIES c = simp (lt-leb _ _ c.if-w-gt-MAX_ENTRIES.true)

pub returns-then-w-gt4294967295 : goal.returns-then-w-gt4294967295
unfolding walked
returns-then-w-gt4294967295 c = simp (le-leb _ _ c.if-w-gt-MAX_ENTRIES.false, lt-leb _ _ c.if-w-gt4294967295.true)

pub returns-in-Found : goal.returns-in-Found
unfolding walked
returns-in-Found c = rw (le-leb _ _ c.if-w-gt-MAX_ENTRIES.false, le-leb _ _ c.if-w-gt4294967295.false) (c.item_at.ensures ∙ ap (walked_of _ _) (sym (c.in-Ok.is ∙ ap Ok c.in-Found.is) ∙ c.step.ensures))

pub returns-in-Leads : goal.returns-in-Leads
unfolding walked
returns-in-Leads c = rw (le-leb _ _ c.if-w-gt-MAX_ENTRIES.false, le-leb _ _ c.if-w-gt4294967295.false) (rw c.new.ensures at c.item_at-in-Leads.ensures ∙ ap (walked_of _ _) (sym (c.in-Ok.is ∙ ap Ok c.in-Leads.is) ∙ c.step.ensures))

pub returns-in-End : goal.returns-in-End
unfolding walked
returns-in-End c = rw (le-leb _ _ c.if-w-gt-MAX_ENTRIES.false, le-leb _ _ c.if-w-gt4294967295.false) (ap (walked_of _ _) (sym (c.in-Ok.is ∙ ap Ok c.in-End.is) ∙ c.step.ensures))

pub returns-in_default : goal.returns-in_default
unfolding walked
returns-in_default c = rw (le-leb _ _ c.if-w-gt-MAX_ENTRIES.false, le-leb _ _ c.if-w-gt4294967295.false) (ap (walked_of _ _) (sym c.in_default.is ∙ c.step.ensures))
