-- `build_sources::is_same` meets its contract. Assumes nothing.
use Rattle.build_sources.specs.Lists.{same_key}
use Rattle.build_sources.proofs.is_same.Goals as goal

pub returns-then-seen : goal.returns-then-seen
unfolding same_key
returns-then-seen c = rw (c.if-seen.true, ← c.compare_keys.ensures) c.is_equal.ensures

pub returns : goal.returns
unfolding same_key
returns c = rw c.if-seen.false
