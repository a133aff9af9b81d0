-- `records::ver_at` meets its contract. Assumes nothing.
use Rattle.values.specs.Keys.{ver_in}
use Rattle.records.proofs.ver_at.Goals as goal

pub returns : goal.returns
unfolding ver_in
returns c = simp (c.new.ensures, c.read_u64.ensures, c.read_u32.ensures)
