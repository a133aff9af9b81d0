use Rattle.build_sources.proofs.first_of.Goals as goal

pub returns : goal.returns
returns c = rw c.no_walk.ensures
