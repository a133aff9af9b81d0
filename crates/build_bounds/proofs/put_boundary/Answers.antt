use Rattle.build_bounds.specs.Boundaries.{Within, boundary_bytes}
use Rattle.build_bounds.proofs.put_boundary.Goals as goal

pub copy_part-requires : goal.copy_part-requires
unfolding Within
copy_part-requires c = record {
  footing_le_at = c.requires.footing_le_at;
  n_in_bounds = c.requires.len_in_bounds;
  n_in_bounds_2 = c.requires.within;
}

pub returns : goal.returns
unfolding boundary_bytes
returns c = c.copy_part.ensures
