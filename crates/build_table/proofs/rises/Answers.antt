-- `build_table::rises` meets its contract. Assumes nothing.
use mathlib.Core.Path.{ap, ◌∙◌}
use mathlib.Core.List.{List}
use Prim.Native.Nat.{ℕ}
use Rattle.build_sources.specs.Source.{entries}
use Rattle.build_sources.specs.Judged.{risen_of}
use Rattle.build_bounds.specs.Boundaries.{boundary_bytes}
use Rattle.build_table.proofs.Judging.{whole-footing, whole_lent}
use Rattle.build_table.proofs.rises.Goals as goal

pub rises_below-requires : goal.rises_below-requires
rises_below-requires c = c.requires.high

pub returns-then-e : goal.returns-then-e
returns-then-e c = c.rises_below.ensures ∙ ap (λ (x : List ℕ). risen_of x (boundary_bytes c.args.hi.now c.args.footing.now c.args.e.hi) (entries c.args.list.now c.args.footing.now c.args.from)) (c.part_of.ensures ∙ whole-footing c.args.lo.now _ _ c.requires.footing c.if-e.true)

pub rises_below-requires-2 : goal.rises_below-requires-2
rises_below-requires-2 c = c.requires.high

pub returns : goal.returns
returns c = c.rises_below-2.ensures ∙ ap (λ (x : List ℕ). risen_of x (boundary_bytes c.args.hi.now c.args.footing.now c.args.e.hi) (entries c.args.list.now c.args.footing.now c.args.from)) (c.part_of-2.ensures ∙ whole_lent _ c.args.footing.now _ c.requires.footing c.if-e.false)
