use mathlib.Core.Path.{ap, ◌∙◌}
use Rattle.order.specs.Order.{starts_with}
use Rattle.build_sources.proofs.Judging.{key_of_lem}
use Rattle.build_sources.proofs.key_begins.Goals as goal

pub returns-then-i : goal.returns-then-i
returns-then-i c = c.begins_in.ensures ∙ ap (starts_with c.args.pre.now) (key_of_lem _ _ _ _ c.if-i.true)

pub returns : goal.returns
returns c = c.begins_in-2.ensures ∙ ap (starts_with c.args.pre.now) (key_of_lem _ _ _ _ c.if-i.false)
