-- `frames::body_of` meets its contract. Assumes nothing.
use Rattle.frames.specs.Layout.{body_of}
use Rattle.frames.proofs.body_of.Goals as goal

pub returns : goal.returns
unfolding body_of
returns c = simp c.kind_of.ensures
