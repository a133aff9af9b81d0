-- What a leaf build's page says, and what the build knows of its input.
-- Assumes nothing.
use Rattle.std.specs.Prelude.{ℕ, ◌+◌, ◌≤◌, ◌≡◌, true, cond, List, [], ◌∷◌, length, take}
use Rattle.frames.specs.Layout.{page_id}
use Rattle.frames.specs.Limits.{max_entries, max_size}
use Rattle.pages.specs.Meaning.{Head, Page, leaf}
use Rattle.build_sources.specs.Source.{Entry}
use Rattle.build_sources.specs.Marks.{Each, Marked}
use Rattle.build_sources.specs.Judged.{rising, prefixed, enclosed}
use Rattle.build_image.specs.declared.Call.{Call}
use Rattle.build_image.specs.Image.{leaf_size, leaf_room, Borders}
use Rattle.law_history.specs.Fit.{Fits, CallFits, BoundsFit, Address}
use Rattle.law_history.specs.Olders.{olders_of}

-- the old versions in front
unfoldable pub run_of : List Entry → List Entry
run_of [] = []
run_of (e ∷ es) = cond e.old (e ∷ run_of es) []

-- a head with its whole key, version and value, and the old versions behind it
abbrev pub head_is : Entry → List Entry → Head
head_is e es = record { key = e.key; ver = e.ver; value = e.val; olds = olders_of (run_of es) }

-- "The first version of each key is its head": the heads in order, each with its old versions
unfoldable pub grouped : List Entry → List Head
grouped [] = []
grouped (e ∷ es) = cond e.old (grouped es) (head_is e es ∷ grouped es)

-- the page that a leaf build is told to write
unfoldable pub leaf_page : Borders → List Entry → Page
unfolding grouped
leaf_page b es = record { lo = b.lo; hi = b.hi; prefix = take b.prefix b.lo; sibling = page_id b.sibling; rows = leaf (grouped es) }

-- what the judge of a leaf build lets pass
pub record LeafFit (s : List ℕ) (m : Call) (b : Borders) (at : ℕ) (es : List Entry) : Type 0 where
  pub address : Address s at
  pub call : CallFits m
  pub bounds : BoundsFit b
  pub each : Each (Fits s) es
  pub marks : Marked es
  pub rises : rising es ≡ true
  pub begins : prefixed (take b.prefix b.lo) es ≡ true
  pub encloses : enclosed b.lo b.hi es ≡ true
  pub few : length es ≤ max_entries
  pub small : leaf_size m b es + leaf_room m es ≤ max_size
