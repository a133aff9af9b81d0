use Rattle.build_sources.specs.Keys.{key_bytes}
use Rattle.build_sources.proofs.Joined.{bare}
use Rattle.build_sources.proofs.compare_keys.Goals as goal

pub returns-then-q-eq0 : goal.returns-then-q-eq0
unfolding key_bytes
returns-then-q-eq0 c = rw (← c.part_of-p.ensures, ← c.part_of-r.ensures, ← c.part_of-q.ensures, ← c.part_of-u.ensures) (bare c.part_of-p.result.now c.part_of-r.result.now c.part_of-q.result.now c.part_of-u.result.now _ c.if-p-eq0.true c.if-q-eq0.true c.compare.ensures)

pub returns : goal.returns
unfolding key_bytes
returns c = rw (← c.part_of-p.ensures, ← c.part_of-r.ensures, ← c.part_of-q.ensures, ← c.part_of-u.ensures) c.compare_joined.ensures
