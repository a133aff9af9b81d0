-- `delta::val` meets its contract. Assumes nothing.
use mathlib.Core.Path.{sym, ◌∙◌}
use Rattle.delta.specs.Read.{value_at}
use Rattle.delta.proofs.Ends.{val-ends}
use Rattle.delta.proofs.val.Goals as goal

pub returns-in_default : goal.returns-in_default
unfolding value_at
returns-in_default c = simp (← c.delta_of.ensures, c.in_default.is)

pub val_in-requires : goal.val_in-requires
val_in-requires c = val-ends c.args.s.now c.args.a 1 c.in-Some.d (sym c.delta_of.ensures ∙ c.in-Some.is)

pub returns : goal.returns
unfolding value_at
returns c = simp (← c.delta_of.ensures, c.in-Some.is, c.val_in.ensures)
