use Rattle.build_sources.proofs.open_pages.Goals as goal

pub returns : goal.returns
returns c = rw c.first_of.ensures at c.page_first.ensures
