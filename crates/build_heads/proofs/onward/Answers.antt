use borrow.Author.Tests.{not-true, not-false}
use Rattle.build_heads.proofs.Locating.{on-old, on_head}
use Rattle.build_heads.proofs.onward.Goals as goal

pub returns-then-not-old : goal.returns-then-not-old
returns-then-not-old c = on_head _ c.args.old (c.if-not-old.true)

pub overflow_sub-result : goal.overflow_sub-result
overflow_sub-result c = c.requires.le_left (c.if-not-old.false)

pub returns : goal.returns
returns c = on-old _ c.args.old (c.if-not-old.false)
