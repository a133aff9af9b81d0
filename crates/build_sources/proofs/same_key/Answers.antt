use Rattle.build_sources.specs.Lists.{same_key}
use Rattle.build_sources.proofs.same_key.Goals as goal

pub returns-then-c : goal.returns-then-c
unfolding same_key
returns-then-c c = rw (c.if-c.true, ← c.compare_keys.ensures) c.is_equal.ensures

pub returns : goal.returns
unfolding same_key
returns c = rw c.if-c.false
