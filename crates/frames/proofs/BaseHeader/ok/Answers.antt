-- `frames::BaseHeader::ok` meets its contract. Assumes nothing.
use Rattle.frames.specs.Layout.{base_ok}
use Rattle.frames.proofs.BaseHeader.ok.Goals as goal

pub returns : goal.returns
unfolding base_ok
returns c = simp c.front.ensures
