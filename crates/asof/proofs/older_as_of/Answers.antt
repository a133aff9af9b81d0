-- `asof::older_as_of` meets its contract. Assumes nothing.
use Rattle.std.proofs.Common.{Some}
use mathlib.Core.Path.{sym, ap, ◌∙◌}
use Rattle.asof.specs.AsOf.{older_as_of}
use Rattle.records.proofs.Inside.{ends}
use Rattle.asof.specs.AsOf.{older_val}
use Rattle.asof.proofs.older_as_of.Goals as goal

pub slice_bounds-decode_from-end : goal.slice_bounds-decode_from-end
slice_bounds-decode_from-end c = sym (ends c.args.s.now c.args.b c.requires)

pub returns-in-Inline : goal.returns-in-Inline
unfolding older_as_of
returns-in-Inline c = c.old_enter.ensures ∙ ap (older_val c.args.s.now c.args.v c.args.slot c.args.reads) (sym (c.in-Some.is ∙ ap Some c.in-Inline.is) ∙ c.decode_from.ensures)

pub returns-in-Remote : goal.returns-in-Remote
unfolding older_as_of
returns-in-Remote c = c.old_enter-in-Remote.ensures ∙ ap (older_val c.args.s.now c.args.v c.args.slot c.args.reads) (sym (c.in-Some.is ∙ ap Some c.in-Remote.is) ∙ c.decode_from.ensures)

pub returns-in_default : goal.returns-in_default
unfolding older_as_of
returns-in_default c = ap (older_val c.args.s.now c.args.v c.args.slot c.args.reads) (sym c.in_default.is ∙ c.decode_from.ensures)
