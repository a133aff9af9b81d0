-- `build_pen::ver_in` meets its contract. Assumes nothing.
use mathlib.Core.Path.{refl}
use Rattle.build_pen.proofs.ver_in.Goals as goal

pub returns : goal.returns
returns c = rw (c.new.ensures, c.read_u64_be.ensures, c.read_u32_be.ensures) refl
