use borrow.Author.Tests.{eq-eqb, ne_eqb}
use Rattle.build_sources.specs.Source.{next_of}
use Rattle.build_sources.proofs.any_next.Goals as goal

pub returns-then-c-eq-PAGES : goal.returns-then-c-eq-PAGES
unfolding next_of
returns-then-c-eq-PAGES c = rw (eq-eqb _ _ c.if-c-eq-PAGES.true) c.pages_next.ensures

pub returns : goal.returns
unfolding next_of
returns c = rw (ne_eqb _ _ c.if-c-eq-PAGES.false) c.list_next.ensures
