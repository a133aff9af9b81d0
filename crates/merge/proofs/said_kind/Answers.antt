use mathlib.Core.Path.{sym, ◌∙◌}
use Rattle.merge.proofs.Merging.{kind_bad, kind_index, kind_leaf, kind-opens}
use Rattle.merge.proofs.said_kind.Goals as goal

pub returns-in_err-b : goal.returns-in_err-b
returns-in_err-b c = c.from_residual.ensures ∙ absurd (kind-opens _ _ (sym c.check.ensures ∙ c.in-Ok.is) (sym c.open_at.ensures ∙ c.in_err-b.was))

pub returns-then-b-eq1 : goal.returns-then-b-eq1
returns-then-b-eq1 c = kind_index _ _ (sym c.check.ensures ∙ c.in-Ok.is) _ (sym c.open_at.ensures ∙ c.in_ok-b.was) c.if-b-eq1.true

pub returns-in_default : goal.returns-in_default
returns-in_default c = kind_bad _ _ _ (sym c.check.ensures ∙ c.in_default.is)

pub returns : goal.returns
returns c = kind_leaf _ _ (sym c.check.ensures ∙ c.in-Ok.is) _ (sym c.open_at.ensures ∙ c.in_ok-b.was) c.if-b-eq1.false
