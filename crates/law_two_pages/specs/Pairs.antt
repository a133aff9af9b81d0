-- Two pages read one behind the other by a cursor: what was begun.
-- Assumes nothing.
use Rattle.std.specs.Prelude.{ℕ, ◌≡◌, true, List, map, Option, Some}
use Rattle.build_sources.specs.declared.Cursor.{Cursor}
use Rattle.build_sources.specs.Source.{Entry, entries, well_formed}
use Rattle.build_sources.specs.Marks.{Each, Marked, Short}
use Rattle.law_rows.specs.Pairs.{Carried}

-- what was begun is a source that ends well, whose entries say exactly these, in order, marked, each of its kind (P)
pub record Reads {A : Type 0} (tell : Entry → A) (P : Entry → Type 0) (l w : List ℕ) (b : Option Cursor) (xs : List A) : Type 0 where
  pub cursor : Cursor
  pub begun : b ≡ Some cursor
  pub well : well_formed l w cursor ≡ true
  pub list : map tell (entries l w cursor) ≡ xs
  pub kind : Each P (entries l w cursor)
  pub marks : Marked (entries l w cursor)
  pub short : Each Short (entries l w cursor)
  pub carried : Each (Carried w) (entries l w cursor)
