-- `build_table::refused` meets its contract. Assumes nothing.
use mathlib.Core.Path.{sym, ◌∙◌}
use borrow.Author.Tests.{not-true, not-false}
use Rattle.build_sources.proofs.Judging.{risen_up, risen_not}
use Rattle.build_bounds.specs.Boundaries.{bounds_of}
use Rattle.build_table.proofs.Judging.{held-shared}
use Rattle.build_table.proofs.Faults.{why_bad, why_falls, why_many, why_outside}
use Rattle.build_table.proofs.refused.Goals as goal

pub returns-then-not-well : goal.returns-then-not-well
returns-then-not-well c = why_bad c.args.list.now c.args.footing.now c.args.from (bounds_of c.args.lo.now c.args.hi.now c.args.footing.now c.args.e) _ c.well.ensures (c.if-not-well.true)

pub rises-requires : goal.rises-requires
rises-requires c = c.requires.inside

pub returns-in_default : goal.returns-in_default
returns-in_default c = why_falls c.args.list.now c.args.footing.now c.args.from (bounds_of c.args.lo.now c.args.hi.now c.args.footing.now c.args.e) _ c.well.ensures (c.if-not-well.false) (risen_not _ _ _ (sym c.in_default.is ∙ c.rises.ensures))

pub returns-then-inside : goal.returns-then-inside
returns-then-inside c = let z = risen_up _ _ _ _ _ (sym c.in-Some.is ∙ c.rises.ensures) in why_many c.args.list.now c.args.footing.now c.args.from (bounds_of c.args.lo.now c.args.hi.now c.args.footing.now c.args.e) _ c.well.ensures (c.if-not-well.false) z.up _ z.inside c.if-inside.true

pub outside-requires : goal.outside-requires
outside-requires c = record {
  within = c.requires.inside.footing;
  p_le_len = held-shared _ _ _ _ c.requires;
}

pub returns : goal.returns
returns c = let z = risen_up _ _ _ _ _ (sym c.in-Some.is ∙ c.rises.ensures) in why_outside c.args.list.now c.args.footing.now c.args.from (bounds_of c.args.lo.now c.args.hi.now c.args.footing.now c.args.e) _ c.well.ensures (c.if-not-well.false) z.up _ z.inside c.if-inside.false _ c.outside.ensures
