-- P8 of document 01, and the rule for one that is too large alone.
-- Assumes nothing.
use mathlib.Core.Path.{◌≡◌, refl}
use mathlib.Core.List.{List, [], ◌∷◌}
use Prim.Native.Nat.{ℕ, ◌+◌, ◌*◌}
use lib.ListN.{replicate}
use Rattle.frames.specs.Layout.{base_len}
use Rattle.build_paging.specs.Cuts.{fits, taken, cuts_from, cuts, total}

-- "each adds 12 + value size + 4", and an inline value's size is 5 + n
abbrev pub inline_cost : ℕ → ℕ
inline_cost n = 12 + (5 + n) + 4

-- P8 "budget 256, limit 64, 52-byte old values: two a page; 51 bytes: three, exactly 256"
pub p8 : (cuts 256 (replicate 7 (inline_cost 52)) ≡ 2 ∷ 2 ∷ 2 ∷ 1 ∷ []) × (cuts 256 (replicate 7 (inline_cost 51)) ≡ 3 ∷ 3 ∷ 1 ∷ []) × (base_len + total (replicate 3 (inline_cost 51)) ≡ 256)
unfolding cuts_from fits total
p8 = (refl, refl, refl)

-- order 2, at the default budget: "9 of 4,070 bytes: 8 in 32,768 exactly", and 9 in one page at the Rust's
pub default_budget_lem : (cuts 32768 (replicate 9 (inline_cost 4070)) ≡ 8 ∷ 1 ∷ []) × (base_len + total (replicate 8 (inline_cost 4070)) ≡ 32768) × (cuts 131072 (replicate 9 (inline_cost 4070)) ≡ 9 ∷ [])
unfolding cuts_from fits total
default_budget_lem = (refl, refl, refl)

-- "a too large old value closes the page being filled, stands alone, and the next one starts a fresh page"
pub alone : cuts 256 (30 ∷ 30 ∷ 300 ∷ 30 ∷ 30 ∷ []) ≡ 2 ∷ 1 ∷ 2 ∷ []
unfolding cuts_from fits
alone = refl
