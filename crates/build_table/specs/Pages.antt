-- Entries that are built anew from pages: heads of one leaf, then heads of another.
-- Assumes nothing.
use Rattle.std.specs.Prelude.{ℕ, ◌-◌, ◌≤◌, ◌≡◌, List, ◌++◌, true}
use Rattle.frames.specs.declared.Body.{Body}
use Rattle.build_sources.specs.Source.{Entry}
use Rattle.build_sources.specs.Judged.{rising, enclosed}
use Rattle.build_bounds.specs.declared.Boundaries.{Boundaries}
use Rattle.build_bounds.specs.Boundaries.{boundary_bytes}
use Rattle.law_rows.specs.Rows.{leaf_entries}
use Rattle.build_rows.specs.Judged.{Judged}
use Rattle.build_table.specs.Index.{Held}

-- the heads from..end of b, with their old versions, then n heads of d
abbrev pub in_leaves : List ℕ → Body → ℕ → ℕ → Body → ℕ → List Entry
in_leaves w b from end d n = leaf_entries w b (end - from) from ++ leaf_entries w d n 0

-- what a judge is told of them: the pages are sound, and es rise and lie between the boundaries; o is a lent slice, in which no boundary lies
pub record Leaves (o w : List ℕ) (b : Body) (from end : ℕ) (d : Body) (n : ℕ) (e : Boundaries) (es : List Entry) : Type 0 where
  pub left : Judged w b 0
  pub right : Judged w d 0
  pub end_in : end ≤ b.elems
  pub n_in : n ≤ d.elems
  pub held : Held o o w e
  pub rises : rising es ≡ true
  pub inside : enclosed (boundary_bytes o w e.lo) (boundary_bytes o w e.hi) es ≡ true
