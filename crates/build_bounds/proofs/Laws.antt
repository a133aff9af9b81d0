-- The length of a boundary, and a boundary that is a whole slice.
-- Assumes nothing.
use mathlib.Core.Path.{◌≡◌}
use mathlib.Core.List.{List}
use Prim.Native.Nat.{ℕ, ◌+◌, ◌≤◌}
use native.Mathlib.Omega.{arith}
use lib.ListN.{length}
use Rattle.spans.proofs.Part.{length_part, part-all}
use Rattle.build_sources.specs.Keys.{src_of}
use Rattle.build_bounds.specs.declared.Boundary.{Boundary}
use Rattle.build_bounds.specs.Boundaries.{Within, boundary_bytes, boundary_of}

pub length_boundary : (s w : List ℕ) (e : Boundary) → Within s w e → length (boundary_bytes s w e) ≡ e.len
unfolding Within boundary_bytes
length_boundary s w e h = length_part (src_of s w e.footing) e.at e.len h

pub boundary_whole : (s w : List ℕ) → boundary_bytes s w (boundary_of s) ≡ s
unfolding boundary_bytes
boundary_whole s w = part-all s

pub boundary_within : (s w : List ℕ) → Within s w (boundary_of s)
unfolding Within
boundary_within s w = omega arith
