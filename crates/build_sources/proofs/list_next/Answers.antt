use borrow.Author.Tests.{le-leb, lt-leb}
use mathlib.Core.Path.{sym, ap, ◌∙◌}
use Rattle.build_sources.specs.Source.{list_next, step_of}
use Rattle.build_sources.proofs.list_next.Goals as goal

pub returns-then-list-c : goal.returns-then-list-c
unfolding list_next step_of
returns-then-list-c c = rw (le-leb _ _ c.if-list-c.true)

pub returns-in_default : goal.returns-in_default
unfolding list_next step_of
returns-in_default c = rw (lt-leb _ _ c.if-list-c.false) (ap (step_of c.args.c) (sym c.in_default.is ∙ c.spot_at.ensures))

pub returns : goal.returns
unfolding list_next step_of
returns c = rw (lt-leb _ _ c.if-list-c.false) (ap (step_of c.args.c) (sym c.in-Some.is ∙ c.spot_at.ensures))
