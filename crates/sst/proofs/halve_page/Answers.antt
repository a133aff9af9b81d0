-- `sst::halve_page` meets its contract. Assumes nothing.
use Rattle.sst.specs.Search.{halved}
use Rattle.spans.proofs.Part.{tail_part}
use Rattle.sst.proofs.halve_page.Goals as goal

pub returns : goal.returns
unfolding halved
returns c = simp (c.halve_keys.ensures, tail_part)
