use Rattle.build_sources.specs.Keys.{key_bytes}
use Rattle.build_sources.proofs.begins_in.Goals as goal

pub returns : goal.returns
unfolding key_bytes
returns c = rw (← c.part_of.ensures, ← c.part_of-2.ensures) c.joined_begins.ensures
