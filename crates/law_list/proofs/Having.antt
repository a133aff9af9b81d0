-- Lists cut by key: what lies between two positions, one element alone, none.
-- Assumes nothing.
use Prim.Native.Nat.{ℕ, zero, suc, ◌-◌, ◌≤◌, ◌<◌}
use mathlib.Core.Path.{◌≡◌, refl, sym, ap, ◌∙◌}
use mathlib.Core.Bool.{Bool, true, false}
use mathlib.Core.List.{List, [], ◌∷◌}
use native.Mathlib.Omega.{arith}
use lib.ListN.{length, take, drop, get_or}
use Rattle.order.specs.Order.{cmp_bytes, is_less}
use Rattle.law_list.specs.Asked.{having, between}

-- ---- all, one, none

pub having-all : {A : Type 0} (key : A → List ℕ) (xs : List A) → having key (λ k. true) xs ≡ xs
unfolding having
having-all key [] = refl
having-all key (x ∷ xs) = ap (λ l. x ∷ l) (having-all key xs)

pub having_none : {A : Type 0} (key : A → List ℕ) (p : List ℕ → Bool) (d : A) (xs : List A) → ((i : ℕ) → i < length xs → p (key (get_or xs i d)) ≡ false) → having key p xs ≡ []
unfolding having
having_none key p d [] h = refl
having_none key p d (x ∷ xs) h = let e : p (key x) ≡ false = h 0 (omega arith) in rw e (having_none key p d xs (λ i l. h (suc i) (omega arith)))

pub having-one : {A : Type 0} (key : A → List ℕ) (p : List ℕ → Bool) (d : A) (xs : List A) (i : ℕ) → i < length xs → p (key (get_or xs i d)) ≡ true
    → ((j : ℕ) → j < length xs → (j ≡ i → ⊥) → p (key (get_or xs j d)) ≡ false) → having key p xs ≡ get_or xs i d ∷ []
unfolding having
having-one key p d [] i l e h = absurd (omega arith)
having-one key p d (x ∷ xs) zero l e h =
    rw e (ap (λ r. x ∷ r) (having_none key p d xs (λ j q. h (suc j) (omega arith) (λ z. omega arith))))
having-one key p d (x ∷ xs) (suc i) l e h =
    let n : p (key x) ≡ false = h 0 (omega arith) (λ z. omega arith) in
    rw n (having-one key p d xs i (omega arith) e (λ j q z. h (suc j) (omega arith) (λ y. z (omega arith))))

-- ---- a range: the keys below q are less than k, and no others

unfoldable pub CutAt : {A : Type 0} → (A → List ℕ) → List ℕ → ℕ → List A → Type 0
CutAt key k q [] = Unit {0}
CutAt key k zero (x ∷ xs) = (is_less (cmp_bytes (key x) k) ≡ false) × CutAt key k zero xs
CutAt key k (suc q) (x ∷ xs) = (is_less (cmp_bytes (key x) k) ≡ true) × CutAt key k q xs

pub cut_at : {A : Type 0} (key : A → List ℕ) (k : List ℕ) (d : A) (xs : List A) (q : ℕ) → q ≤ length xs → ((i : ℕ) → i < q → is_less (cmp_bytes (key (get_or xs i d)) k) ≡ true)
    → ((i : ℕ) → q ≤ i → i < length xs → is_less (cmp_bytes (key (get_or xs i d)) k) ≡ false) → CutAt key k q xs
unfolding CutAt
cut_at key k d [] q l f g = tt
cut_at key k d (x ∷ xs) zero l f g = (g 0 (omega arith) (omega arith), cut_at key k d xs zero (omega arith) (λ i h. absurd (omega arith)) (λ i h m. g (suc i) (omega arith) (omega arith)))
cut_at key k d (x ∷ xs) (suc q) l f g = (f 0 (omega arith), cut_at key k d xs q (omega arith) (λ i h. f (suc i) (omega arith)) (λ i h m. g (suc i) (omega arith) (omega arith)))

none_left : {A : Type 0} (n i : ℕ) → take {A = A} n (drop i []) ≡ []
none_left zero i = refl
none_left (suc n) zero = refl
none_left (suc n) (suc i) = refl

pub having_range : {A : Type 0} (key : A → List ℕ) (lo hi : List ℕ) (xs : List A) (i j : ℕ) → CutAt key lo i xs → CutAt key hi j xs → having key (between lo hi) xs ≡ take (j - i) (drop i xs)
unfolding having CutAt
having_range key lo hi [] i j c d = sym (none_left (j - i) i)
having_range key lo hi (x ∷ xs) zero zero c d = rw (c.0, d.0) (having_range key lo hi xs zero zero c.1 d.1)
having_range key lo hi (x ∷ xs) zero (suc j) c d =
    let e : suc j - 0 ≡ suc j = omega arith in
    let f : j - 0 ≡ j = omega arith in
    rw (c.0, d.0) (ap (λ l. x ∷ l) (having_range key lo hi xs zero j c.1 d.1) ∙ ap (λ n. x ∷ take n xs) f ∙ ap (λ n. take n (x ∷ xs)) (sym e))
having_range key lo hi (x ∷ xs) (suc i) zero c d =
    let e : 0 - i ≡ 0 - suc i = omega arith in
    rw c.0 (having_range key lo hi xs i zero c.1 d.1 ∙ ap (λ n. take n (drop i xs)) e)
having_range key lo hi (x ∷ xs) (suc i) (suc j) c d =
    let e : j - i ≡ suc j - suc i = omega arith in
    rw c.0 (having_range key lo hi xs i j c.1 d.1 ∙ ap (λ n. take n (drop i xs)) e)
