-- `frames::BaseHeader::fields` meets its contract. Assumes nothing.
use Rattle.frames.specs.Layout.{base_fields}
use Rattle.frames.proofs.BaseHeader.fields.Goals as goal

pub returns : goal.returns
unfolding base_fields
returns c = simp (
  c.read_u32.ensures,
  c.read_u16.ensures,
  c.read_u16-2.ensures,
  c.read_u64.ensures,
  c.read_u64-2.ensures,
  c.read_u32-2.ensures,
  c.read_u32-3.ensures,
  c.read_u32-4.ensures,
)
