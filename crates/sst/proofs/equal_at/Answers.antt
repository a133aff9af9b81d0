use mathlib.Core.Path.{sym, ◌∙◌}
use Rattle.sst.proofs.equal_at.Goals as goal

pub returns-then-newer_at : goal.returns-then-newer_at
returns-then-newer_at c = rw (c.if-w.true, sym c.newer_at.ensures ∙ c.if-newer_at.true)

pub returns-then-w : goal.returns-then-w
returns-then-w c = rw (c.if-w.true, sym c.newer_at.ensures ∙ c.if-newer_at.false)
