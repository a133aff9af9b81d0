-- `frames::BoxHeader::fields` meets its contract. Assumes nothing.
use Rattle.frames.specs.Layout.{box_fields}
use Rattle.frames.proofs.BoxHeader.fields.Goals as goal

pub returns : goal.returns
unfolding box_fields
returns c = simp (c.read_u32.ensures, c.read_u64.ensures, c.read_u64-2.ensures, c.read_u64-3.ensures)
