use mathlib.Core.Path.{ap, ◌∙◌}
use mathlib.Core.List.{List}
use Prim.Native.Nat.{ℕ}
use Rattle.build_sources.specs.Source.{entries}
use Rattle.build_sources.specs.Judged.{prefixed}
use Rattle.build_table.proofs.Judging.{no_prefix, in_ground, in_lent}
use Rattle.build_table.proofs.begins_with.Goals as goal

pub returns-then-p-eq0 : goal.returns-then-p-eq0
returns-then-p-eq0 c = no_prefix c.args.p _ _ c.if-p-eq0.true

pub returns-then-e : goal.returns-then-e
returns-then-e c = c.begins.ensures ∙ ap (λ (x : List ℕ). prefixed x (entries c.args.list.now c.args.footing.now c.args.from)) (c.part_of.ensures ∙ in_ground _ _ _ _ c.requires.within c.requires.p_le_len c.if-e.true)

pub returns : goal.returns
returns c = c.begins-2.ensures ∙ ap (λ (x : List ℕ). prefixed x (entries c.args.list.now c.args.footing.now c.args.from)) (c.part_of-2.ensures ∙ in_lent _ _ _ _ c.requires.within c.requires.p_le_len c.if-e.false)
