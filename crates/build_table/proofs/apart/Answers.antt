-- `build_table::apart` meets its contract. Assumes nothing.
use mathlib.Core.Path.{sym, ap, ◌∙◌}
use mathlib.Core.Bool.{Bool, cond}
use lib.ListN.{take}
use Rattle.frames.specs.declared.Refusal.TheVariants.{OutOfOrder}
use Rattle.build_sources.specs.Source.{entries}
use Rattle.build_sources.proofs.Judging.{risen_up, risen_not}
use Rattle.build_bounds.specs.Boundaries.{boundary_bytes}
use Rattle.build_table.specs.Table.{outside_of}
use Rattle.build_table.proofs.Judging.{held-shared}
use Rattle.build_table.proofs.apart.Goals as goal

pub rises-requires : goal.rises-requires
rises-requires c = c.requires.inside

pub returns-in_default : goal.returns-in_default
returns-in_default c = sym (ap (λ (t : Bool). cond t (outside_of (take c.args.e.prefix (boundary_bytes c.args.lo.now c.args.footing.now c.args.e.lo)) (entries c.args.list.now c.args.footing.now c.args.from)) OutOfOrder) (risen_not _ _ _ (sym c.in_default.is ∙ c.rises.ensures)))

pub outside-requires : goal.outside-requires
outside-requires c = record {
  within = c.requires.inside.footing;
  p_le_len = held-shared _ _ _ _ c.requires;
}

pub returns : goal.returns
returns c = c.outside.ensures ∙ sym (ap (λ (t : Bool). cond t (outside_of (take c.args.e.prefix (boundary_bytes c.args.lo.now c.args.footing.now c.args.e.lo)) (entries c.args.list.now c.args.footing.now c.args.from)) OutOfOrder) (risen_up _ _ _ _ _ (sym c.in-Some.is ∙ c.rises.ensures)).up)
