use Rattle.build_sources.proofs.Judging.{by_keys}
use Rattle.build_sources.proofs.compare_items.Goals as goal

pub returns-then-b : goal.returns-then-b
returns-then-b c = by_keys _ _ _ _ _ _ _ c.if-a.true c.if-b.true c.compare_keys.ensures

pub returns-then-a : goal.returns-then-a
returns-then-a c = by_keys _ _ _ _ _ _ _ c.if-a.true c.if-b.false c.compare_keys-then-a.ensures

pub returns-then-b-2 : goal.returns-then-b-2
returns-then-b-2 c = by_keys _ _ _ _ _ _ _ c.if-a.false c.if-b-2.true c.compare_keys-then-b-2.ensures

pub returns : goal.returns
returns c = by_keys _ _ _ _ _ _ _ c.if-a.false c.if-b-2.false c.compare_keys-2.ensures
