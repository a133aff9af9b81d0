-- The laws of the cuts: what a look ahead at one page tells of all of them, and that each page keeps the budget or holds one alone.
-- Assumes nothing.
use mathlib.Core.Path.{◌≡◌, refl, sym, ap, ap₂, ◌∙◌}
use mathlib.Core.List.{List, [], ◌∷◌, ◌++◌}
use mathlib.Core.Bool.{Bool, true, false, cond, ◌||◌}
use mathlib.Core.Logic.{◌⊎◌, ⊎_elim, inl, inr}
use Prim.Native.Nat.{ℕ, zero, suc, ◌+◌, ◌≤◌, ◌<◌}
use native.Mathlib.Numerals.{add-one}
use native.Mathlib.Nat.{add-zero, lt_of_not-le}
use native.Mathlib.Decide.{dec_le}
use native.Mathlib.Omega.{arith}
use lib.Dec.{leb, eqb}
use lib.ListN.{length, take, drop}
use borrow.Author.Tests.{le-leb, lt-leb, leb-true, leb-false, eq-eqb, ne_eqb, eqb-true}
use Rattle.frames.specs.Layout.{base_len}
use Rattle.build_paging.specs.Cuts.{fits, taken, cuts_from, cuts, first_cut, some, total}

-- ---- the test

pub fits-first : (budget n t s : ℕ) → n ≡ 0 → fits budget n t s ≡ true
unfolding fits
fits-first budget n t s e = rw (eq-eqb n 0 e)

pub fits-room : (budget n t s : ℕ) → 0 < n → t + s ≤ budget → fits budget n t s ≡ true
unfolding fits
fits-room budget n t s p h = rw (ne_eqb n 0 (λ e. omega arith), le-leb (t + s) budget h)

pub fits_none : (budget n t s : ℕ) → 0 < n → budget < t + s → fits budget n t s ≡ false
unfolding fits
fits_none budget n t s p h = rw (ne_eqb n 0 (λ e. omega arith), lt-leb (t + s) budget h)

-- what it says
or_says : (a b : Bool) → (a || b) ≡ true → (a ≡ true) ⊎ (b ≡ true)
or_says true b e = inl refl
or_says false b e = inr e

or_not : (a b : Bool) → (a || b) ≡ false → (a ≡ false) × (b ≡ false)
or_not true b e = absurd (let z : ◌≡◌ {A = ℕ} 0 1 = cc in omega arith)
or_not false b e = (refl, e)

pub fits_says : (budget n t s : ℕ) → fits budget n t s ≡ true → (n ≡ 0) ⊎ (t + s ≤ budget)
unfolding fits
fits_says budget n t s e = ⊎_elim (λ h. inl (eqb-true n 0 h)) (λ h. inr (leb-true (t + s) budget h)) (or_says (eqb n 0) (leb (t + s) budget) e)

zero_or : (n : ℕ) → eqb n 0 ≡ false → 0 < n
zero_or zero e = absurd (let z : ◌≡◌ {A = ℕ} 0 1 = cc in omega arith)
zero_or (suc n) e = omega arith

pub fits_not : (budget n t s : ℕ) → fits budget n t s ≡ false → (0 < n) × (budget < t + s)
unfolding fits
fits_not budget n t s e =
    let o = or_not (eqb n 0) (leb (t + s) budget) e in
    (zero_or n o.0, leb-false (t + s) budget o.1)

-- ---- one step

pub taken_more : (budget n t s : ℕ) (ss : List ℕ) → fits budget n t s ≡ true → taken budget n t (s ∷ ss) ≡ suc (taken budget (n + 1) (t + s) ss)
unfolding taken
taken_more budget n t s ss e = rw e

pub taken_stop : (budget n t s : ℕ) (ss : List ℕ) → fits budget n t s ≡ false → taken budget n t (s ∷ ss) ≡ 0
unfolding taken
taken_stop budget n t s ss e = rw e

pub taken_nil : (budget n t : ℕ) → taken budget n t [] ≡ 0
unfolding taken
taken_nil budget n t = refl

pub cuts_nil : (budget : ℕ) → cuts budget [] ≡ []
unfolding cuts_from
cuts_nil budget = refl

-- ---- what a look ahead tells

-- k more are taken: the page under way is done, and the next starts afresh
told_by : (b : Bool) (budget n t s : ℕ) (ss : List ℕ) → fits budget n t s ≡ b
    → (0 < n + 1 + taken budget (n + 1) (t + s) ss → cuts_from budget (n + 1) (t + s) ss ≡ (n + 1 + taken budget (n + 1) (t + s) ss) ∷ cuts budget (drop (taken budget (n + 1) (t + s) ss) ss))
    → cuts_from budget n t (s ∷ ss) ≡ (n + taken budget n t (s ∷ ss)) ∷ cuts budget (drop (taken budget n t (s ∷ ss)) (s ∷ ss))
unfolding cuts_from
told_by true budget n t s ss e ih =
    rw (e, taken_more budget n t s ss e)
    (ih (omega arith) ∙ ap (λ (k : ℕ). k ∷ cuts budget (drop (taken budget (n + 1) (t + s) ss) ss)) (omega arith))
told_by false budget n t s ss e ih =
    rw (e, taken_stop budget n t s ss e, add-zero) refl

pub cut_told : (budget n t : ℕ) (ss : List ℕ) → 0 < n + taken budget n t ss → cuts_from budget n t ss ≡ (n + taken budget n t ss) ∷ cuts budget (drop (taken budget n t ss) ss)
unfolding cuts_from taken
cut_told budget n t [] p = rw (ne_eqb n 0 (λ e. omega arith), add-zero) refl
cut_told budget n t (s ∷ ss) p = told_by (fits budget n t s) budget n t s ss refl (λ q. cut_told budget (n + 1) (t + s) ss q)

-- a page takes at least one, if any is left
pub first_some : (budget s : ℕ) (ss : List ℕ) → first_cut budget (s ∷ ss) ≡ suc (taken budget 1 (base_len + s) ss)
first_some budget s ss = taken_more budget 0 base_len s ss (fits-first budget 0 base_len s refl)

pub first_none : (budget : ℕ) (ss : List ℕ) → first_cut budget ss ≡ 0 → ss ≡ []
first_none budget [] e = refl
first_none budget (s ∷ ss) e = absurd (omega (arith, first_some budget s ss))

-- a look ahead at the first page: its count, and the cuts behind it
pub record Told (budget : ℕ) (ss : List ℕ) (k : ℕ) : Type 0 where
  pub count : k ≡ first_cut budget ss
  pub some : k ≡ 0 → ss ≡ []
  pub cut : 0 < k → cuts budget ss ≡ k ∷ cuts budget (drop k ss)
  pub long : k ≤ length ss

taken_by : (b : Bool) (budget n t s : ℕ) (ss : List ℕ) → fits budget n t s ≡ b → taken budget (n + 1) (t + s) ss ≤ length ss → taken budget n t (s ∷ ss) ≤ suc (length ss)
taken_by true budget n t s ss e h = omega (arith, taken_more budget n t s ss e)
taken_by false budget n t s ss e h = omega (arith, taken_stop budget n t s ss e)

pub taken-long : (budget n t : ℕ) (ss : List ℕ) → taken budget n t ss ≤ length ss
unfolding taken
taken-long budget n t [] = omega arith
taken-long budget n t (s ∷ ss) = taken_by (fits budget n t s) budget n t s ss refl (taken-long budget (n + 1) (t + s) ss)

pub told : (budget : ℕ) (ss : List ℕ) (k : ℕ) → k ≡ first_cut budget ss → Told budget ss k
told budget ss k e =
    record {
      count = e;
      some = λ z. first_none budget ss (sym e ∙ z);
      cut = λ p. rw e (cut_told budget 0 base_len ss (omega (arith, e)) ∙ ap (λ (j : ℕ). j ∷ cuts budget (drop (first_cut budget ss) ss)) (omega arith));
      long = omega (arith, e, taken-long budget 0 base_len ss);
    }

-- there is a next page exactly where any are left
pub more : (budget : ℕ) (ss : List ℕ) → some (cuts budget ss) ≡ some ss
more budget [] = ap some (cuts_nil budget)
more budget (s ∷ ss) = ap some ((told budget (s ∷ ss) _ refl).cut (omega (arith, first_some budget s ss)))

-- ---- the budget

by_order {ℓ} : {X : Type ℓ} (a b : ℕ) → (a ≤ b → X) → (b < a → X) → X
by_order a b f g = elim (dec_le a b) [ no p ↦ g (lt_of_not-le p) | yes p ↦ f p ]

within_by : (b : Bool) (budget n t s : ℕ) (ss : List ℕ) → fits budget n t s ≡ b → 0 < n → t ≤ budget
    → (t + s ≤ budget → t + s + total (take (taken budget (n + 1) (t + s) ss) ss) ≤ budget) → t + total (take (taken budget n t (s ∷ ss)) (s ∷ ss)) ≤ budget
unfolding total
within_by true budget n t s ss e p h ih =
    let q : t + s ≤ budget = ⊎_elim (λ z. absurd (omega arith)) (λ z. z) (fits_says budget n t s e) in
    rw (taken_more budget n t s ss e) (omega (arith, ih q))
within_by false budget n t s ss e p h ih = rw (taken_stop budget n t s ss e) (omega arith)

-- a page that has begun and is within the budget stays within it
pub within : (budget n t : ℕ) (ss : List ℕ) → 0 < n → t ≤ budget → t + total (take (taken budget n t ss) ss) ≤ budget
unfolding total taken
within budget n t [] p h = omega arith
within budget n t (s ∷ ss) p h =
    within_by (fits budget n t s) budget n t s ss refl p h (λ q. within budget (n + 1) (t + s) ss (omega arith) q)

-- one that is over it takes no more
pub over : (budget n t : ℕ) (ss : List ℕ) → 0 < n → budget < t → taken budget n t ss ≡ 0
over budget n t [] p h = taken_nil budget n t
over budget n t (s ∷ ss) p h = taken_stop budget n t s ss (fits_none budget n t s p (omega arith))

-- each page is within the budget, or holds one that is too large alone
pub page-fits : (budget s : ℕ) (ss : List ℕ)
    → (base_len + total (take (first_cut budget (s ∷ ss)) (s ∷ ss)) ≤ budget) ⊎ ((first_cut budget (s ∷ ss) ≡ 1) × (budget < base_len + s))
unfolding total
page-fits budget s ss =
    by_order (base_len + s) budget
    (λ h. inl (rw (first_some budget s ss) (omega (arith, within budget 1 (base_len + s) ss (omega arith) h))))
    (λ h. inr (omega (arith, first_some budget s ss, over budget 1 (base_len + s) ss (omega arith) h), h))

one_alone : (k most : ℕ) (l : List ℕ) → k ≡ 1 → base_len + total (take 1 l) ≤ most → base_len + total (take k l) ≤ most
one_alone k most l e h = rw e h

-- so a bound of the budget and of the first size bounds the page
pub page_most : (budget most : ℕ) (ss : List ℕ) → budget ≤ most → base_len ≤ most → base_len + total (take 1 ss) ≤ most → base_len + total (take (first_cut budget ss) ss) ≤ most
unfolding total taken
page_most budget most [] b l h = omega arith
page_most budget most (s ∷ ss) b l h = ⊎_elim (λ q. omega arith) (λ q. one_alone (first_cut budget (s ∷ ss)) most (s ∷ ss) q.0 h) (page-fits budget s ss)
