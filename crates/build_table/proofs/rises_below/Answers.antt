-- `build_table::rises_below` meets its contract. Assumes nothing.
use mathlib.Core.Path.{ap, ◌∙◌}
use mathlib.Core.List.{List}
use Prim.Native.Nat.{ℕ}
use Rattle.build_sources.specs.Source.{entries}
use Rattle.build_sources.specs.Judged.{risen_of}
use Rattle.build_table.proofs.Judging.{whole-footing, whole_lent}
use Rattle.build_table.proofs.rises_below.Goals as goal

pub returns-then-e : goal.returns-then-e
returns-then-e c = c.rises.ensures ∙ ap (λ (x : List ℕ). risen_of c.args.lo.now x (entries c.args.list.now c.args.footing.now c.args.from)) (c.part_of.ensures ∙ whole-footing c.args.hi.now _ _ c.requires c.if-e.true)

pub returns : goal.returns
returns c = c.rises-2.ensures ∙ ap (λ (x : List ℕ). risen_of c.args.lo.now x (entries c.args.list.now c.args.footing.now c.args.from)) (c.part_of-2.ensures ∙ whole_lent _ c.args.footing.now _ c.requires c.if-e.false)
