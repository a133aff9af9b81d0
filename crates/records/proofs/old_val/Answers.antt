-- `records::old_val` meets its contract. Assumes nothing.
use mathlib.Core.Path.{refl, sym, ◌∙◌}
use mathlib.Core.Bool.{false}
use mathlib.Core.Logic.{inl, inr}
use Rattle.records.proofs.Quick.{val-plain}
use Rattle.records.proofs.old_val.Goals as goal

pub returns-then-t-at-eq0 : goal.returns-then-t-at-eq0
returns-then-t-at-eq0 c = inr (c.bytes_at.ensures ∙ sym (val-plain c.args.t.now c.args.at false c.if-at-t.true c.if-t-at-eq0.true))

pub returns-else-t-at-eq0 : goal.returns-else-t-at-eq0
returns-else-t-at-eq0 c = inl refl

pub returns-else-at-t : goal.returns-else-at-t
returns-else-at-t c = inl refl
