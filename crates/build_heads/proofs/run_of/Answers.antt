use mathlib.Core.Path.{refl}
use Rattle.build_heads.proofs.run_of.Goals as goal

pub returns-then-old : goal.returns-then-old
returns-then-old c = rw c.if-old.true refl

pub returns : goal.returns
returns c = rw c.if-old.false c.old_run.ensures
