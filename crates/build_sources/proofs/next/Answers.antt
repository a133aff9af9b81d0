use mathlib.Core.Path.{sym, ap, ◌∙◌}
use Rattle.build_sources.specs.Source.{step_of}
use Rattle.build_sources.proofs.Stepped.{walk_kept, record_bare, record_end, record_on}
use Rattle.build_sources.proofs.next.Goals as goal

pub returns-then-c-ne-RECORDS : goal.returns-then-c-ne-RECORDS
returns-then-c-ne-RECORDS c = c.any_next.ensures

pub returns-then-list-c : goal.returns-then-list-c
returns-then-list-c c = record_end c.args.list.now c.args.footing.now c.args.c c.if-c-ne-RECORDS.false c.if-list-c.true

pub returns-in_default : goal.returns-in_default
unfolding step_of
returns-in_default c = ap (step_of c.args.c) (sym c.in_default.is ∙ c.record_at.ensures ∙ record_bare c.args.list.now c.args.c) ∙ record_on c.args.list.now c.args.footing.now c.args.c c.if-c-ne-RECORDS.false c.if-list-c.false

pub returns : goal.returns
unfolding step_of
returns c = walk_kept c.args.c _ _ _ c.apart.ensures ∙ ap (step_of c.args.c) (sym c.in-Some.is ∙ c.record_at.ensures ∙ record_bare c.args.list.now c.args.c) ∙ record_on c.args.list.now c.args.footing.now c.args.c c.if-c-ne-RECORDS.false c.if-list-c.false
