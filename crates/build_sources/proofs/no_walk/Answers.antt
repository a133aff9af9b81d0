-- `build_sources::no_walk` meets its contract. Assumes nothing.
use Rattle.build_sources.proofs.no_walk.Goals as goal

pub returns : goal.returns
returns c = simp c.no_older-older.ensures
