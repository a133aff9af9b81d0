-- `build_sweep::spans_ends` meets its contract. Assumes nothing.
use native.Mathlib.Omega.{arith}
use Rattle.build_sweep.proofs.Ending.{spans_none, spans_some}
use Rattle.build_sweep.proofs.spans_ends.Goals as goal

pub returns-then-n-eq0 : goal.returns-then-n-eq0
returns-then-n-eq0 c = spans_none _ _ _ _ _ _ c.if-n-eq0.true _ c.compare.ensures _ c.below_by.ensures

pub read_u16_be-k-requires : goal.read_u16_be-k-requires
read_u16_be-k-requires c = let z = c.requires c.if-n-eq0.false in omega (arith, z)

pub returns : goal.returns
returns c = spans_some _ _ _ _ _ _ c.if-n-eq0.false _ c.read_u16_be-k.ensures _ _ c.part_of.ensures c.part_of-2.ensures _ _ c.compare-low.ensures c.compare-high.ensures _ _ c.is_less.ensures c.below_by-2.ensures
