-- `sst::newer_at` meets its contract. Assumes nothing.
use native.Mathlib.Omega.{arith}
use borrow.Author.Tests.{eq-eqb, ne_eqb}
use Rattle.records.proofs.Inside.{skip_twelve}
use Rattle.sst.specs.Search.{newer_at}
use Rattle.sst.proofs.newer_at.Goals as goal

pub returns-then-kind-eq-INDEX : goal.returns-then-kind-eq-INDEX
unfolding newer_at
returns-then-kind-eq-INDEX c = simp (eq-eqb _ _ c.if-kind-eq-INDEX.true)

pub ver_at-requires : goal.ver_at-requires
ver_at-requires c = omega (arith, skip_twelve c.args.kind c.if-kind-eq-INDEX.false, c.requires)

pub returns : goal.returns
unfolding newer_at
returns c = simp (ne_eqb _ _ c.if-kind-eq-INDEX.false, c.newer.ensures, c.ver_at.ensures)
