use mathlib.Core.Path.{ap, ◌∙◌}
use Rattle.spans.specs.Span.{put}
use Rattle.build_history.proofs.Writes.{ground_asks, footing-part, list-part, list_asks}
use Rattle.build_history.proofs.copy_part.Goals as goal

pub copy_within-requires : goal.copy_within-requires
copy_within-requires c = ground_asks c.args.list.now c.args.a.now c.args.footing c.args.from c.args.n c.args.inside c.args.at c.if-inside.true c.requires.n_in_bounds_2 c.requires.footing_le_at c.requires.n_in_bounds

pub copy-requires : goal.copy-requires
copy-requires c = list_asks c.args.list.now c.args.a.now c.args.footing c.args.from c.args.n c.args.inside c.args.at _ c.if-inside.false c.requires.n_in_bounds_2 c.requires.n_in_bounds c.part_of-s.ensures

pub returns-then-inside : goal.returns-then-inside
returns-then-inside c = c.copy_within.ensures ∙ ap (put c.args.a.now c.args.at) (footing-part c.args.list.now c.args.a.now c.args.footing c.args.from c.args.n c.args.inside c.if-inside.true c.requires.n_in_bounds_2)

pub returns-else-inside : goal.returns-else-inside
returns-else-inside c = c.copy.ensures ∙ ap (put c.args.a.now c.args.at) (c.part_of-s.ensures ∙ list-part c.args.list.now c.args.a.now c.args.footing c.args.from c.args.n c.args.inside c.if-inside.false c.requires.n_in_bounds_2)
