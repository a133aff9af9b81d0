use Rattle.merge.specs.Merge.{kinds_by}
use Rattle.merge.proofs.kinds_of.Goals as goal

pub returns : goal.returns
returns c = rw (← c.said_kind-x.ensures, ← c.said_kind-y.ensures) c.kinds_by.ensures
