-- What a merge takes from its two pages, and what it judges of them. w is the arena below the next free address: "a frame that a merge reads
-- ends above the next free address" is 4.
-- Assumes nothing.
use Rattle.std.specs.Prelude.{ℕ, ◌≡◌, List, ◌++◌, map, Bool, true, Option, Some, None, Result, Ok, Err}
use Rattle.order.specs.Bounds.{meet}
use Rattle.frames.specs.declared.Addr.{Addr}
use Rattle.pages.specs.declared.Place.{Place}
use Rattle.pages.specs.declared.Bounds.{Bounds}
use Rattle.pages.specs.Boundaries.{part_in, bounds_at, lo_at, hi_at}
use Rattle.pages.specs.Meaning.{Rows, leaf, index, Page, Said, nothing, says, meaning}
use Rattle.build_sources.specs.Lists.{first_of}
use Rattle.build_sources.specs.Pages.{page_first}
use Rattle.build_sources.specs.Source.{Entry}
use Rattle.build_sources.specs.Marks.{Each, Marked, Short}
use Rattle.law_rows.specs.Rows.{page_entries}
use Rattle.law_rows.specs.Pairs.{Carried}
use Rattle.build_image.specs.Prefix.{common}
use Rattle.build_image.specs.Image.{Borders}
use Rattle.build_bounds.specs.declared.Boundary.{Boundary}
use Rattle.build_bounds.specs.declared.Boundaries.{Boundaries}
use Rattle.merge.specs.declared.Kinds.{Kinds}
use Rattle.build_sources.specs.declared.Cursor.{Cursor}
use Rattle.frames.specs.declared.Refusal.{Refusal}
use Rattle.merge.specs.declared.Kind.{Kind}

-- ---- 4 and 5

abbrev pub kind_by : Rows → Option Kind
kind_by (leaf hs) = Some Kind.Leaf
kind_by (index cs) = Some Kind.Index

-- "Merge checks both pages first": a page that says nothing is 4
abbrev pub said_kind : Said → Option Kind
said_kind nothing = None
said_kind (says p) = kind_by p.rows

-- "merging leaf with index" is 5
abbrev pub kinds_by : Option Kind → Option Kind → Kinds
kinds_by None y = Kinds.Bad
kinds_by (Some Kind.Leaf) None = Kinds.Bad
kinds_by (Some Kind.Leaf) (Some Kind.Leaf) = Kinds.Leaves
kinds_by (Some Kind.Leaf) (Some Kind.Index) = Kinds.Mixed
kinds_by (Some Kind.Index) None = Kinds.Bad
kinds_by (Some Kind.Index) (Some Kind.Leaf) = Kinds.Mixed
kinds_by (Some Kind.Index) (Some Kind.Index) = Kinds.Indexes

abbrev pub kinds_of : Said → Said → Kinds
kinds_of p q = kinds_by (said_kind p) (said_kind q)

-- a page that says something
abbrev pub Sound : List ℕ → Addr → Type 0
Sound w a = (p : Page) × (meaning w a ≡ says p)

-- ---- what is merged

-- "Merge takes lo and every record of the left, then of the right": with the addresses of their remotes
unfoldable pub merged : List ℕ → Addr → Addr → List Entry
unfolding page_entries
merged w left right = page_entries w left ++ page_entries w right

-- "hi and right_sibling of the right"
abbrev pub sibling_of : Result Bounds Refusal → ℕ
sibling_of (Ok b) = b.sibling.0
sibling_of (Err r) = 0

-- the new prefix comes from the new boundaries
unfoldable pub bounds_in : List ℕ → Addr → Addr → Borders
bounds_in w left right =
    record { lo = lo_at w left; hi = hi_at w right; prefix = common (lo_at w left) (hi_at w right); sibling = sibling_of (bounds_at w right) }

-- the same in the words of what the pages say
unfoldable pub bounds_between : Page → Page → Borders
bounds_between p q = record { lo = p.lo; hi = q.hi; prefix = common p.lo q.hi; sibling = q.sibling.0 }

-- "a merge needs the left hi to equal the right lo, with a left page without hi refused" (order 4)
abbrev pub meet_in : List ℕ → Addr → Addr → Bool
meet_in w left right = meet (hi_at w left) (lo_at w right)

-- what is merged says exactly these, in order, each of its kind (P), and is marked where the pages meet; what is known of it before anything is judged
pub record Merged {A : Type 0} (tell : Entry → A) (P : Entry → Type 0) (w : List ℕ) (met : Bool) (es : List Entry) (xs : List A) : Type 0 where
  pub list : map tell es ≡ xs
  pub kind : Each P es
  pub marks : met ≡ true → Marked es
  pub short : Each Short es
  pub carried : Each (Carried w) es

-- ---- where it lies

abbrev pub boundary_in : Place → Boundary
boundary_in p = record { footing = true; at = p.at; len = p.len }

abbrev pub boundaries_in : List ℕ → Bounds → Bounds → Boundaries
boundaries_in w p q = record { lo = boundary_in p.lo; hi = boundary_in q.hi; prefix = common (part_in w p.lo) (part_in w q.hi); sibling = q.sibling }

abbrev pub gathered_by : List ℕ → Option Cursor → Result Bounds Refusal → Result Bounds Refusal → Option (Cursor × Boundaries)
gathered_by w (Some c) (Ok p) (Ok q) = Some (c, boundaries_in w p q)
gathered_by w (Some c) (Ok p) (Err r) = None
gathered_by w (Some c) (Err r) q = None
gathered_by w None p q = None

unfoldable pub gathered : List ℕ → Addr → Addr → Option (Cursor × Boundaries)
gathered w left right = gathered_by w (page_first w (first_of 2) left right) (bounds_at w left) (bounds_at w right)
