-- `records::prefix_of` meets its contract. Assumes nothing.
use Rattle.records.specs.Parts.{prefix_in}
use Rattle.records.proofs.prefix_of.Goals as goal

pub returns : goal.returns
unfolding prefix_in
returns c = c.part_of.ensures
