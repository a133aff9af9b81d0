-- What was handed in for a page: its lists one behind the other, its boundaries, and the page that says them.
-- Assumes nothing.
use Rattle.std.specs.Prelude.{ℕ, List, [], ◌∷◌, ◌++◌}
use Rattle.pages.specs.Meaning.{Page}
use Rattle.build_sources.specs.Source.{Entry}
use Rattle.build_image.specs.Image.{Borders}
use Rattle.base.specs.Calls.{bounds_from, listed}
use Rattle.law_leaf.specs.Grouped.{leaf_page}
use Rattle.law_index.specs.Children.{index_page}
use Rattle.law_merged.specs.Trees.{Input, Tree, built, joined}

-- "every record of the left, then of the right": of every input, in order
unfoldable pub all_of : {A : Type 0} → (Input → List A) → Tree → List A
all_of f (built i) = f i
all_of f (joined t u) = all_of f t ++ all_of f u

-- the inputs in order, however they were grouped
abbrev pub inputs_of : Tree → List Input
inputs_of t = all_of (λ i. i ∷ []) t

-- the entries of the lists, one list behind the other: 0 record lists, 1 index lists
abbrev pub entries_in : ℕ → Tree → List Entry
entries_in source t = all_of (λ i. listed i.list [] source) t

-- "Merge takes lo .. of the left, .. hi and right_sibling of the right"
unfoldable pub leftmost : Tree → Input
leftmost (built i) = i
leftmost (joined t u) = leftmost t

unfoldable pub rightmost : Tree → Input
rightmost (built i) = i
rightmost (joined t u) = rightmost u

abbrev pub bounds_of : Tree → Borders
bounds_of t = bounds_from (leftmost t).lo (rightmost t).hi (rightmost t).sibling

-- ---- the page

abbrev pub leaf_of : Tree → Page
leaf_of t = leaf_page (bounds_of t) (entries_in 0 t)

abbrev pub index_of : Tree → Page
index_of t = index_page (bounds_of t) (entries_in 1 t)
