-- `build_table::outside` meets its contract. Assumes nothing.
use mathlib.Core.Path.{sym, ap, ◌∙◌}
use mathlib.Core.Bool.{Bool, cond}
use Rattle.frames.specs.declared.Refusal.TheVariants.{WrongPrefix, Outside}
use Rattle.build_table.proofs.outside.Goals as goal

pub returns-then-begins_with : goal.returns-then-begins_with
returns-then-begins_with c = sym (ap (λ (t : Bool). cond t Outside WrongPrefix) (sym c.begins_with.ensures ∙ c.if-begins_with.true))

pub returns : goal.returns
returns c = sym (ap (λ (t : Bool). cond t Outside WrongPrefix) (sym c.begins_with.ensures ∙ c.if-begins_with.false))
