-- What numbers 1 and 2 give a call that they do not refuse, and that they accept the budgets that have a name.
-- Assumes nothing.
use Prim.Native.Nat.{ℕ, ◌%◌, ◌≤◌, ◌<◌}
use mathlib.Core.Path.{◌≡◌, refl}
use mathlib.Core.Bool.{true, ◌&&◌}
use native.Mathlib.Omega.{arith}
use borrow.Author.Tests.{leb-true, eqb-true}
use lib.Dec.{leb, eqb}
use Rattle.frames.specs.Limits.{max_budget, max_limit, min_budget}
use Rattle.frames.proofs.Frames.{and_l, and_r}
use Rattle.build_image.specs.Call.{limit_ok, budget_ok, default_budget, rust_budget, next_ok}

pub limit_true : (l : ℕ) → limit_ok l ≡ true → (1 ≤ l) × (l ≤ max_limit)
limit_true l e = (leb-true 1 l (and_l (leb 1 l) (leb l max_limit) e), leb-true l max_limit (and_r (leb 1 l) (leb l max_limit) e))

pub budget_true : (b : ℕ) → budget_ok b ≡ true → (min_budget ≤ b) × (b ≤ max_budget)
budget_true b e = (leb-true min_budget b (and_l (leb min_budget b) (leb b max_budget) e), leb-true b max_budget (and_r (leb min_budget b) (leb b max_budget) e))

-- both budgets that have a name are accepted, and the default's pages are the smaller ones
pub named_budgets : (budget_ok default_budget ≡ true) × (budget_ok rust_budget ≡ true) × (default_budget < rust_budget)
named_budgets = (refl, refl, omega arith)

pub next_true : (len next : ℕ) → next_ok len next ≡ true → (8 ≤ next) × (next % 8 ≡ 0) × (next ≤ len)
next_true len next e =
    let f = and_l (leb 8 next && eqb (next % 8) 0) (leb next len) e in
    (leb-true 8 next (and_l (leb 8 next) (eqb (next % 8) 0) f), eqb-true (next % 8) 0 (and_r (leb 8 next) (eqb (next % 8) 0) f), leb-true next len (and_r (leb 8 next && eqb (next % 8) 0) (leb next len) e))
