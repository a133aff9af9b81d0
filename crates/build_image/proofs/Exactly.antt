-- "Exactly when": a call's number is n just where every row in front of n's holds and n's does not. Stated over any table in which n
-- stands once, in whatever order the numbers stand.
-- Assumes nothing.
use mathlib.Core.Path.{◌≡◌, refl, sym, ◌∙◌}
use mathlib.Core.List.{List, [], ◌∷◌}
use mathlib.Core.Bool.{Bool, true, false, cond}
use Prim.Native.Nat.{ℕ, ◌<◌}
use native.Mathlib.Omega.{arith}
use borrow.Author.Tests.{eq-eqb, eqb-true}
use lib.Dec.{eqb}
use Rattle.spans.proofs.Tests.{dont}
use Rattle.frames.specs.declared.Refusal.{Refusal}
use Rattle.frames.specs.Refusals.{number_of}
use Rattle.frames.specs.Layout.{addr}
use Rattle.frames.proofs.Refusals.{some_number}
use Rattle.build_image.specs.Call.{built_number}
use Rattle.build_image.specs.Table.{Row, judged}
use Rattle.build_image.proofs.Tables.{All, all_go}
use Rattle.std.proofs.Common.{Result, Ok, Err}
use Rattle.frames.specs.declared.Addr.{Addr}

abbrev pub Exactly : Type 0 → Type 0 → Type 0
Exactly P Q = (P → Q) × (Q → P)

-- the rows in front of the one that refuses with n; what that one asks
abbrev pub before : ℕ → List Row → List Row
before n [] = []
before n (r ∷ rs) = cond (eqb (number_of r.else) n) [] (r ∷ before n rs)

abbrev pub asks : ℕ → List Row → Bool
asks n [] = true
asks n (r ∷ rs) = cond (eqb (number_of r.else) n) r.holds (asks n rs)

-- no row refuses with n; one row does and no other. Of a given table both are computed
abbrev pub never : ℕ → List Row → Bool
never n [] = true
never n (r ∷ rs) = cond (eqb (number_of r.else) n) false (never n rs)

abbrev pub once : ℕ → List Row → Bool
once n [] = false
once n (r ∷ rs) = cond (eqb (number_of r.else) n) (never n rs) (once n rs)

no : {A : Type 0} → false ≡ true → A
no e = absurd (let z : ◌≡◌ {A = ℕ} 0 1 = cc in omega arith)

-- ---- a table without n does not answer n

not_by : (b : Bool) (x k n : ℕ) → (x ≡ n → ⊥) → (k ≡ n → ⊥) → cond b x k ≡ n → ⊥
not_by true x k n f g e = f e
not_by false x k n f g e = g e

not_eqb : (k n : ℕ) → eqb k n ≡ false → k ≡ n → ⊥
not_eqb k n e h = no (sym e ∙ eq-eqb k n h)

not_in : (rs : List Row) (n : ℕ) → 0 < n → never n rs ≡ true → judged rs number_of 0 ≡ n → ⊥
not_in [] n p h e = absurd (omega (arith, e))
not_in (r ∷ rs) n p h e =
    let q = dont (eqb (number_of r.else) n) false (never n rs) true (λ z. no z) h in
    not_by r.holds (judged rs number_of 0) (number_of r.else) n (not_in rs n p q.1) (not_eqb (number_of r.else) n q.0) e

-- ---- the row of n, and a row in front of it

here : (b : Bool) (x k n : ℕ) → k ≡ n → (x ≡ n → ⊥) → Exactly (cond b x k ≡ n) (Unit {0} × (b ≡ false))
here true x k n e f = (λ q. absurd (f q), λ q. no (sym q.1))
here false x k n e f = (λ q. (tt, refl), λ q. e)

further : {A : Type 0} (b t : Bool) (x k n : ℕ) → (k ≡ n → ⊥) → Exactly (x ≡ n) (A × (t ≡ false)) → Exactly (cond b x k ≡ n) (((b ≡ true) × A) × (t ≡ false))
further true t x k n f h = (λ q. let z = h.0 q in ((refl, z.0), z.1), λ q. h.1 (q.0.1, q.1))
further false t x k n f h = (λ q. absurd (f q), λ q. no q.0.0)

pub exactly : (n : ℕ) (rs : List Row) → once n rs ≡ true → Exactly (judged rs number_of 0 ≡ n) (All (before n rs) × (asks n rs ≡ false))
exactly n [] h = no h
exactly n (r ∷ rs) h = by (eqb (number_of r.else) n) refl h (exactly n rs)
  where
    by : (t : Bool) → eqb (number_of r.else) n ≡ t → cond t (never n rs) (once n rs) ≡ true
        → (once n rs ≡ true → Exactly (judged rs number_of 0 ≡ n) (All (before n rs) × (asks n rs ≡ false)))
        → Exactly (judged (r ∷ rs) number_of 0 ≡ n) (All (cond t [] (r ∷ before n rs)) × (cond t r.holds (asks n rs) ≡ false))
    by true e h' ih =
        let k = eqb-true (number_of r.else) n e in
        here r.holds (judged rs number_of 0) (number_of r.else) n k (not_in rs n (omega (arith, k, some_number r.else)) h')
    by false e h' ih = further r.holds (asks n rs) (judged rs number_of 0) (number_of r.else) n (not_eqb (number_of r.else) n e) (ih h')

-- accepted exactly when every row holds
none_by : (b : Bool) (x k : ℕ) → 0 < k → cond b x k ≡ 0 → (b ≡ true) × (x ≡ 0)
none_by true x k h e = (refl, e)
none_by false x k h e = absurd (omega (arith, e))

all_hold : (rs : List Row) → judged rs number_of 0 ≡ 0 → All rs
all_hold [] e = tt
all_hold (r ∷ rs) e = let q = none_by r.holds (judged rs number_of 0) (number_of r.else) (some_number r.else) e in (q.0, all_hold rs q.1)

pub accepted : (rs : List Row) → Exactly (judged rs number_of 0 ≡ 0) (All rs)
accepted rs = (all_hold rs, λ h. all_go rs number_of 0 h)

-- "A refusal returns only its number": what is kept where a row does not hold
stay_by : {X : Type 0} (b : Bool) (a x : X) (n k : ℕ) → ((n ≡ 0 → ⊥) → x ≡ a) → (cond b n k ≡ 0 → ⊥) → cond b x a ≡ a
stay_by true a x n k ih h = ih h
stay_by false a x n k ih h = refl

pub stays : {X : Type 0} (rs : List Row) (a x : X) → (judged rs number_of 0 ≡ 0 → ⊥) → judged rs (λ (r : Refusal). a) x ≡ a
stays [] a x h = absurd (h refl)
stays (r ∷ rs) a x h = stay_by r.holds a (judged rs (λ (k : Refusal). a) x) (judged rs number_of 0) (number_of r.else) (stays rs a x) h

-- ---- the same of a call that answers by its table

number_by : (b : Bool) (x : Result (Addr × ℕ) Refusal) (n : ℕ) (r : Refusal) → built_number x ≡ n → built_number (cond b x (Err r)) ≡ cond b n (number_of r)
number_by true x n r e = e
number_by false x n r e = refl

-- its number is the table's
pub number_is : (rs : List Row) (at end : ℕ) → built_number (judged rs Err (Ok (addr at, end))) ≡ judged rs number_of 0
number_is [] at end = refl
number_is (r ∷ rs) at end = number_by r.holds (judged rs Err (Ok (addr at, end))) (judged rs number_of 0) r.else (number_is rs at end)

move : {P : Type 0} {x y n : ℕ} → x ≡ y → Exactly (y ≡ n) P → Exactly (x ≡ n) P
move e h = (λ q. h.0 (sym e ∙ q), λ p. e ∙ h.1 p)

module _ (rs : List Row) (at end : ℕ) where
  pub call_exactly : (n : ℕ) → once n rs ≡ true → Exactly (built_number (judged rs Err (Ok (addr at, end))) ≡ n) (All (before n rs) × (asks n rs ≡ false))
  call_exactly n h = move (number_is rs at end) (exactly n rs h)

  pub call_accepted : Exactly (built_number (judged rs Err (Ok (addr at, end))) ≡ 0) (All rs)
  call_accepted = move (number_is rs at end) (accepted rs)

  pub call_stays : {X : Type 0} (a x : X) → (built_number (judged rs Err (Ok (addr at, end))) ≡ 0 → ⊥) → judged rs (λ (r : Refusal). a) x ≡ a
  call_stays a x h = stays rs a x (λ e. h (number_is rs at end ∙ e))
