-- `build_index::pen_rec` meets its contract. Assumes nothing.
use Rattle.spans.specs.Span.{part}
use native.Mathlib.Omega.{arith}
use Rattle.build_index.proofs.Listed.{rec-fits, copy_room, id-room, rec-end}
use Rattle.build_index.proofs.pen_rec.Goals as goal

pub overflow_add-to : goal.overflow_add-to
overflow_add-to c = let z = rec-fits _ _ _ _ _ _ c.requires.n_in_bounds c.requires.n_le_max_key.1 c.requires.n_in_bounds_2 _ _ c.write-k.ensures in omega (arith, z, c.well_formed.0)

pub copy-requires : goal.copy-requires
unfolding part
copy-requires c = copy_room _ _ _ _ _ _ c.requires.n_in_bounds c.requires.n_le_max_key.1 c.requires.n_in_bounds_2 _ _ c.write-k.ensures

pub overflow_add-v : goal.overflow_add-v
overflow_add-v c = let z = rec-fits _ _ _ _ _ _ c.requires.n_in_bounds c.requires.n_le_max_key.1 c.requires.n_in_bounds_2 _ _ c.write-k.ensures in omega (arith, z, c.well_formed.0)

pub put_u64-requires : goal.put_u64-requires
unfolding part
put_u64-requires c = id-room _ _ _ _ _ _ c.requires.n_in_bounds c.requires.n_le_max_key.1 c.requires.n_in_bounds_2 _ _ c.write-k.ensures _ c.copy.ensures

pub overflow_add-result : goal.overflow_add-result
overflow_add-result c = let z = rec-fits _ _ _ _ _ _ c.requires.n_in_bounds c.requires.n_le_max_key.1 c.requires.n_in_bounds_2 _ _ c.write-k.ensures in omega (arith, z, c.well_formed.0)

pub returns : goal.returns
unfolding part
returns c = let all = rec-end _ _ _ _ _ _ c.requires.n_in_bounds c.requires.n_le_max_key.1 c.requires.n_in_bounds_2 _ _ c.write-k.ensures _ c.copy.ensures _ c.read_u64_be.ensures _ c.put_u64.ensures in record {
  value = all.0;
  a_after = all.1;
}
