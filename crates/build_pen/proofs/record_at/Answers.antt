-- `build_pen::record_at` meets its contract. Assumes nothing.
use native.Mathlib.Omega.{arith}
use Rattle.build_pen.proofs.Places.{first_fits, front_fits, read_is}
use Rattle.build_pen.proofs.record_at.Goals as goal

pub read_u16_be-k-requires : goal.read_u16_be-k-requires
read_u16_be-k-requires c = first_fits _ _ c.requires.at_in_bounds c.requires.well

pub read_u32_be-v-requires : goal.read_u32_be-v-requires
read_u32_be-v-requires c = let z = front_fits _ _ c.requires.at_in_bounds c.requires.well _ c.read_u16_be-k.ensures in omega arith

pub returns : goal.returns
returns c = read_is _ _ c.requires.at_in_bounds c.requires.well _ c.read_u16_be-k.ensures _ c.read_u32_be-v.ensures
