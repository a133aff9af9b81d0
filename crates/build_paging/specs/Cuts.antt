-- How many old versions each history page takes: document 01, building rule 3, on a list of sizes.
-- Assumes nothing.
use Rattle.std.specs.Prelude.{ℕ, suc, ◌+◌, List, [], ◌∷◌, Bool, true, false, cond, ◌||◌, leb, eqb}
use Rattle.frames.specs.Layout.{base_len}

-- "one is taken while the total is at most the budget. One too large alone gets its own page": n stand in the page, which is t long
unfoldable pub fits : ℕ → ℕ → ℕ → ℕ → Bool
fits budget n t s = eqb n 0 || leb (t + s) budget

-- how many more the page under way takes
unfoldable pub taken : ℕ → ℕ → ℕ → List ℕ → ℕ
unfolding fits
taken budget n t [] = 0
taken budget n t (s ∷ ss) = cond (fits budget n t s) (suc (taken budget (n + 1) (t + s) ss)) 0

-- the counts of all pages, that of the page under way first: "Page starts at 40", with its header
unfoldable pub cuts_from : ℕ → ℕ → ℕ → List ℕ → List ℕ
unfolding fits
cuts_from budget n t [] = cond (eqb n 0) [] (n ∷ [])
cuts_from budget n t (s ∷ ss) = cond (fits budget n t s) (cuts_from budget (n + 1) (t + s) ss) (n ∷ cuts_from budget 1 (base_len + s) ss)

-- "Old versions fill history pages greedily"
abbrev pub cuts : ℕ → List ℕ → List ℕ
cuts budget ss = cuts_from budget 0 base_len ss

-- the first page's count
abbrev pub first_cut : ℕ → List ℕ → ℕ
first_cut budget ss = taken budget 0 base_len ss

-- whether there are any
abbrev pub some : List ℕ → Bool
some [] = false
some (s ∷ ss) = true

-- the sum of some sizes
unfoldable pub total : List ℕ → ℕ
total [] = 0
total (s ∷ ss) = s + total ss
