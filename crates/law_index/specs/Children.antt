-- What an index build's page says, and what the build knows of its input.
-- Assumes nothing.
use Rattle.std.specs.Prelude.{ℕ, ◌≤◌, ◌≡◌, true, List, [], ◌∷◌, length, take}
use Rattle.order.specs.Version.{ver_of}
use Rattle.frames.specs.Layout.{page_id}
use Rattle.frames.specs.Limits.{max_entries, max_size}
use Rattle.pages.specs.Meaning.{Child, Page, index}
use Rattle.build_sources.specs.Source.{Entry}
use Rattle.build_sources.specs.Marks.{Each, Short, Wide}
use Rattle.build_sources.specs.Judged.{rising, prefixed, enclosed}
use Rattle.build_image.specs.declared.Call.{Call}
use Rattle.build_image.specs.Image.{index_size, Borders}
use Rattle.law_history.specs.Fit.{Numbers, BoundsFit, Address}

-- a whole key and the page that it leads to
abbrev pub child_is : Entry → Child
child_is e = record { key = e.key; page = page_id e.page }

unfoldable pub children_of : List Entry → List Child
children_of [] = []
children_of (e ∷ es) = child_is e ∷ children_of es

-- the page that an index build is told to write
unfoldable pub index_page : Borders → List Entry → Page
unfolding children_of
index_page b es = record { lo = b.lo; hi = b.hi; prefix = take b.prefix b.lo; sibling = page_id b.sibling; rows = index (children_of es) }

-- an entry of an index list: its lengths are document 01's, a page id is a u64, and it has no version
pub record Leads (e : Entry) : Type 0 where
  pub short : Short e
  pub wide : Wide e
  pub plain : e.ver ≡ ver_of 0 0

-- what the judge of an index build lets pass
pub record IndexFit (s : List ℕ) (m : Call) (b : Borders) (at : ℕ) (es : List Entry) : Type 0 where
  pub address : Address s at
  pub numbers : Numbers m
  pub bounds : BoundsFit b
  pub each : Each Leads es
  pub rises : rising es ≡ true
  pub begins : prefixed (take b.prefix b.lo) es ≡ true
  pub encloses : enclosed b.lo b.hi es ≡ true
  pub few : length es ≤ max_entries
  pub small : index_size b es ≤ max_size
