-- `build_sources::compare_in` meets its contract. Assumes nothing.
use Rattle.build_sources.specs.Keys.{key_bytes}
use Rattle.build_sources.proofs.compare_in.Goals as goal

pub returns : goal.returns
unfolding key_bytes
returns c = rw (← c.part_of.ensures, ← c.part_of-2.ensures) c.compare_joined.ensures
