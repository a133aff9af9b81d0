-- Where boundaries lie, and what they say: s is the slice lent for one, w the arena below the next free address.
-- Assumes nothing.
use Rattle.std.specs.Prelude.{ℕ, ◌+◌, ◌≤◌, List, false, length}
use Rattle.spans.specs.Span.{part}
use Rattle.build_sources.specs.Keys.{src_of}
use Rattle.build_image.specs.Image.{Borders}
use Rattle.build_bounds.specs.declared.Boundary.{Boundary}
use Rattle.build_bounds.specs.declared.Boundaries.{Boundaries}

unfoldable pub boundary_bytes : List ℕ → List ℕ → Boundary → List ℕ
boundary_bytes s w e = part (src_of s w e.footing) e.at e.len

-- a boundary that lies in its slice
unfoldable pub Within : List ℕ → List ℕ → Boundary → Type 0
Within s w e = e.at + e.len ≤ length (src_of s w e.footing)

-- a boundary that is a whole lent slice
abbrev pub boundary_of : List ℕ → Boundary
boundary_of s = record { footing = false; at = 0; len = length s }

-- the boundaries as an image takes them; lo and hi are the slices lent for them
abbrev pub bounds_of : List ℕ → List ℕ → List ℕ → Boundaries → Borders
bounds_of lo hi w e = record { lo = boundary_bytes lo w e.lo; hi = boundary_bytes hi w e.hi; prefix = e.prefix; sibling = e.sibling.0 }

-- both lie in their slices
pub record BothWithin (lo hi w : List ℕ) (e : Boundaries) : Type 0 where
  pub footing : Within lo w e.lo
  pub high : Within hi w e.hi
