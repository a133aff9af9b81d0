-- The halving over any comparison: the number of keys read, and, where the comparison rises, what it finds.
-- Assumes nothing.
use Prim.Native.Nat.{ℕ, zero, suc, ◌+◌, ◌*◌, ◌-◌, ◌/◌, ◌≤◌, ◌<◌, ◌^◌}
use mathlib.Core.Path.{◌≡◌, refl, ap, ◌∙◌}
use mathlib.Core.Bool.{Bool, true, false}
use native.Mathlib.Omega.{arith}
use native.Mathlib.Nat.{pow-succ'}
use borrow.Author.Tests.{ltb-true, ltb-false}
use lib.Dec.{ltb}
use Rattle.sst.specs.Halve.{mid, halve}
use Rattle.sst.proofs.Turns.{halve-less, halve_equal, halve_greater, halve_refuse, halve-end}
use Rattle.std.proofs.Common.{Option, Some, None}
use Rattle.sst.specs.declared.Halved.{Halved}
use Rattle.std.specs.declared.cmp.Ordering.{Ordering}

-- below, equal or above
pub three : {A : Type 0} (i m : ℕ) → (i < m → A) → (i ≡ m → A) → (m < i → A) → A
three {A} i m less same more = go (ltb i m) refl (ltb m i) refl
  where
    go : (b : Bool) → ltb i m ≡ b → (c : Bool) → ltb m i ≡ c → A
    go true e c d = less (ltb-true i m e)
    go false e true d = more (ltb-true m i d)
    go false e false d = same (omega (arith, ltb-false i m e, ltb-false m i d))

-- a property of the answer holds if it holds at each way that the halving can end: induction over the halving, once
module _ (f : ℕ → Option Ordering) (P : ℕ → ℕ → ℕ → Option Halved → Type 0)
    (ends : (lo hi r : ℕ) → hi ≤ lo → P lo hi r (Some (Halved.End lo r)))
    (met : (lo hi r : ℕ) → lo < hi → f (mid lo hi) ≡ Some Ordering.Equal → P lo hi r (Some (Halved.At (mid lo hi) (r + 1))))
    (bad : (lo hi r : ℕ) → lo < hi → f (mid lo hi) ≡ None → P lo hi r None)
    (up : (lo hi r : ℕ) (x : Option Halved) → lo < hi → f (mid lo hi) ≡ Some Ordering.Less → P (mid lo hi + 1) hi (r + 1) x → P lo hi r x)
    (down : (lo hi r : ℕ) (x : Option Halved) → lo < hi → f (mid lo hi) ≡ Some Ordering.Greater → P lo (mid lo hi) (r + 1) x → P lo hi r x)
  where
    pub by_halving : (k lo hi r : ℕ) → hi - lo ≤ k → P lo hi r (halve f k lo hi r)
    by_halving zero lo hi r w = rw (halve-end f zero lo hi r (omega arith)) (ends lo hi r (omega arith))
    by_halving (suc k) lo hi r w = turn (ltb lo hi) refl (by_halving k (mid lo hi + 1) hi (r + 1)) (by_halving k lo (mid lo hi) (r + 1))
      where
        turn : (b : Bool) → ltb lo hi ≡ b → (hi - (mid lo hi + 1) ≤ k → P (mid lo hi + 1) hi (r + 1) (halve f k (mid lo hi + 1) hi (r + 1))) → (mid lo hi - lo ≤ k → P lo (mid lo hi) (r + 1) (halve f k lo (mid lo hi) (r + 1))) → P lo hi r (halve f (suc k) lo hi r)
        turn false e u d = let h = ltb-false lo hi e in rw (halve-end f (suc k) lo hi r h) (ends lo hi r h)
        turn true e u d = by (f (mid lo hi)) refl
          where
            h : lo < hi
            h = ltb-true lo hi e

            by : (c : Option Ordering) → f (mid lo hi) ≡ c → P lo hi r (halve f (suc k) lo hi r)
            by (Some Ordering.Less) q = rw (halve-less f k lo hi r h q) (up lo hi r _ h q (u (omega arith)))
            by (Some Ordering.Equal) q = rw (halve_equal f k lo hi r h q) (met lo hi r h q)
            by (Some Ordering.Greater) q = rw (halve_greater f k lo hi r h q) (down lo hi r _ h q (d (omega arith)))
            by None q = rw (halve_refuse f k lo hi r h q) (bad lo hi r h q)

-- the number of keys read
abbrev pub reads_of : Option Halved → ℕ
reads_of (Some (Halved.At i n)) = n
reads_of (Some (Halved.End lo n)) = n
reads_of None = 0

-- a range that is halved once more has one bit less
module _ (f : ℕ → Option Ordering) where
  Few : ℕ → ℕ → ℕ → Option Halved → Type 0
  Few lo hi r x = (b : ℕ) → hi - lo < 2 ^ b → reads_of x ≤ r + b

  positive : (b : ℕ) {lo hi : ℕ} → lo < hi → hi - lo < 2 ^ b → 0 < b
  positive zero l h = absurd (omega arith)
  positive (suc b) l h = omega arith

  step : (lo hi lo' hi' r : ℕ) (x : Option Halved) → lo < hi → hi' - lo' ≤ (hi - lo) / 2 → Few lo' hi' (r + 1) x → Few lo hi r x
  unfolding Few
  step lo hi lo' hi' r x l m q zero h = absurd (omega (arith, positive zero l h))
  step lo hi lo' hi' r x l m q (suc b) h = let h' : hi - lo < 2 * 2 ^ b = rw pow-succ' at h in omega (arith, q b (omega arith))

  pub reads_few : (n b : ℕ) → n < 2 ^ b → reads_of (halve f n 0 n 0) ≤ b
  unfolding Few
  reads_few n b h =
      omega (
        arith,
        by_halving f Few
            (λ lo hi r l b h. omega arith)
            (λ lo hi r l q b h. omega (arith, positive b l h))
            (λ lo hi r l q b h. omega arith)
            (λ lo hi r x l q w. step lo hi (mid lo hi + 1) hi r x l (omega arith) w)
            (λ lo hi r x l q w. step lo hi lo (mid lo hi) r x l (omega arith) w)
            n 0 n 0 (omega arith) b (omega arith),
      )

-- a comparison that rises: below a smaller key all are smaller, above a key that is not smaller all are greater, and none is refused
pub record Rises (f : ℕ → Option Ordering) (n : ℕ) : Type 0 where
  pub less-below : (i j : ℕ) → i < j → j < n → f j ≡ Some Ordering.Less → f i ≡ Some Ordering.Less
  pub equal_above : (i j : ℕ) → i < j → j < n → f i ≡ Some Ordering.Equal → f j ≡ Some Ordering.Greater
  pub greater_above : (i j : ℕ) → i < j → j < n → f i ≡ Some Ordering.Greater → f j ≡ Some Ordering.Greater
  pub answers : (i : ℕ) → i < n → f i ≡ None → ⊥

-- where the halving of a comparison that rises ends: at an equal key, or where the smaller keys end and the greater begin
abbrev pub Finds : (ℕ → Option Ordering) → ℕ → Option Halved → Type 0
Finds f n (Some (Halved.At i r)) = (i < n) × (f i ≡ Some Ordering.Equal)
Finds f n (Some (Halved.End p r)) = (p ≤ n) × ((i : ℕ) → i < p → f i ≡ Some Ordering.Less) × ((i : ℕ) → p ≤ i → i < n → f i ≡ Some Ordering.Greater)
Finds f n None = ⊥

module _ (f : ℕ → Option Ordering) (n : ℕ) (u : Rises f n) where
  Bracket : ℕ → ℕ → ℕ → Option Halved → Type 0
  Bracket lo hi r x = lo ≤ hi → hi ≤ n → ((i : ℕ) → i < lo → f i ≡ Some Ordering.Less) → ((i : ℕ) → hi ≤ i → i < n → f i ≡ Some Ordering.Greater) → Finds f n x

  pub halve_finds : Finds f n (halve f n 0 n 0)
  unfolding Bracket
  halve_finds =
      by_halving f Bracket
      (λ lo hi r l o h b a. (omega arith, b, λ i p. a i (omega arith)))
      (λ lo hi r l q o h b a. (omega arith, q))
      (λ lo hi r l q o h b a. u.answers (mid lo hi) (omega arith) q)
      (λ lo hi r x l q w o h b a. w (omega arith) h (λ i p. below lo hi l h q i p) a)
      (λ lo hi r x l q w o h b a. w (omega arith) (omega arith) b (λ i p m. above lo hi l h q i p m))
      n 0 n 0 (omega arith) (omega arith) (omega arith) (λ i p. absurd (omega arith)) (λ i p m. absurd (omega arith))
    where
      below : (lo hi : ℕ) → lo < hi → hi ≤ n → f (mid lo hi) ≡ Some Ordering.Less → (i : ℕ) → i < mid lo hi + 1 → f i ≡ Some Ordering.Less
      below lo hi l h q i p = three i (mid lo hi) (λ s. u.less-below i (mid lo hi) s (omega arith) q) (λ e. ap f e ∙ q) (λ s. absurd (omega arith))

      above : (lo hi : ℕ) → lo < hi → hi ≤ n → f (mid lo hi) ≡ Some Ordering.Greater → (i : ℕ) → mid lo hi ≤ i → i < n → f i ≡ Some Ordering.Greater
      above lo hi l h q i p m = three i (mid lo hi) (λ s. absurd (omega arith)) (λ e. ap f e ∙ q) (λ s. u.greater_above (mid lo hi) i s m q)
