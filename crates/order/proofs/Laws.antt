-- The order of byte strings is total, equal only on the same bytes, and puts a proper prefix first.
-- Assumes nothing.
use mathlib.Core.Path.{◌≡◌, refl, sym, ap, ap₂, ◌∙◌, subst}
use mathlib.Core.List.{List, [], ◌∷◌, ◌++◌}
use mathlib.Core.Bool.{Bool, true, false, cond}
use Prim.Native.Nat.{ℕ, ◌≤◌, ◌<◌, suc-le-suc, zero-le}
use native.Mathlib.Nat.{lt_of_not-le, le_antisymm}
use native.Mathlib.Decide.{dec_le}
use native.Mathlib.Omega.{arith}
use lib.Dec.{eqb}
use lib.ListN.{length, take, drop}
use borrow.Author.Tests.{lt-ltb, le-ltb, eq-eqb, ne_eqb}
use Rattle.std.specs.declared.cmp.Ordering.{Ordering}
use Rattle.std.specs.declared.cmp.Ordering.TheVariants.{Less, Equal, Greater}
use Rattle.order.specs.Order.{by_number, cmp_bytes, is_equal, flip, starts_with}

-- less, equal or greater
pub case_order {ℓ} : {X : Type ℓ} (x y : ℕ) → (x < y → X) → (x ≡ y → X) → (y < x → X) → X
case_order x y f g h =
    elim (dec_le y x) [ no p ↦ f (lt_of_not-le p) | yes p ↦ elim (dec_le x y) [ no q ↦ h (lt_of_not-le q) | yes q ↦ g (le_antisymm q p) ] ]

-- the three cases of a comparison of numbers
pub is-less : (x y : ℕ) (k : Ordering) → x < y → by_number x y k ≡ Less
is-less x y k h = simp (lt-ltb x y h)

pub is_greater : (x y : ℕ) (k : Ordering) → y < x → by_number x y k ≡ Greater
is_greater x y k h = simp (le-ltb x y (omega arith), lt-ltb y x h)

pub is_same : (x y : ℕ) (k : Ordering) → x ≡ y → by_number x y k ≡ k
is_same x y k h = simp (le-ltb x y (omega arith), le-ltb y x (omega arith))

-- no answer is another
pub less_greater {ℓ} : {X : Type ℓ} → Less ≡ Greater → X
less_greater e = let z : ◌≡◌ {A = ℕ} 0 1 = cc in absurd (omega arith)

pub less_equal {ℓ} : {X : Type ℓ} → Less ≡ Equal → X
less_equal e = let z : ◌≡◌ {A = ℕ} 0 1 = cc in absurd (omega arith)

pub greater_equal {ℓ} : {X : Type ℓ} → Greater ≡ Equal → X
greater_equal e = let z : ◌≡◌ {A = ℕ} 0 1 = cc in absurd (omega arith)

-- ---- total: one of three, the other way round is the other answer, equal is the same bytes, and less goes through

pub cmp_same : (xs : List ℕ) → cmp_bytes xs xs ≡ Equal
unfolding cmp_bytes
cmp_same [] = refl
cmp_same (x ∷ xs) = is_same x x (cmp_bytes xs xs) refl ∙ cmp_same xs

pub cmp_flip : (xs ys : List ℕ) → cmp_bytes ys xs ≡ flip (cmp_bytes xs ys)
unfolding cmp_bytes
cmp_flip [] [] = refl
cmp_flip [] (y ∷ ys) = refl
cmp_flip (x ∷ xs) [] = refl
cmp_flip (x ∷ xs) (y ∷ ys) =
    case_order x y
    (λ h. is_greater y x (cmp_bytes ys xs) h ∙ ap flip (sym (is-less x y (cmp_bytes xs ys) h)))
    (λ h. is_same y x (cmp_bytes ys xs) (sym h) ∙ cmp_flip xs ys ∙ ap flip (sym (is_same x y (cmp_bytes xs ys) h)))
    (λ h. is-less y x (cmp_bytes ys xs) h ∙ ap flip (sym (is_greater x y (cmp_bytes xs ys) h)))

pub cmp_greater : (a b : List ℕ) → cmp_bytes a b ≡ Greater → cmp_bytes b a ≡ Less
cmp_greater a b e = cmp_flip a b ∙ ap flip e

pub cmp_less : (a b : List ℕ) → cmp_bytes a b ≡ Less → cmp_bytes b a ≡ Greater
cmp_less a b e = cmp_flip a b ∙ ap flip e

pub cmp_eq : (xs ys : List ℕ) → cmp_bytes xs ys ≡ Equal → xs ≡ ys
unfolding cmp_bytes
cmp_eq [] [] e = refl
cmp_eq [] (y ∷ ys) e = less_equal e
cmp_eq (x ∷ xs) [] e = greater_equal e
cmp_eq (x ∷ xs) (y ∷ ys) e =
    case_order x y (λ h. less_equal (sym (is-less x y (cmp_bytes xs ys) h) ∙ e))
    (λ h. ap₂ (λ (a : ℕ) (r : List ℕ). a ∷ r) h (cmp_eq xs ys (sym (is_same x y (cmp_bytes xs ys) h) ∙ e)))
    (λ h. greater_equal (sym (is_greater x y (cmp_bytes xs ys) h) ∙ e))

pub cmp_trans : (xs ys zs : List ℕ) → cmp_bytes xs ys ≡ Less → cmp_bytes ys zs ≡ Less → cmp_bytes xs zs ≡ Less
unfolding cmp_bytes
cmp_trans xs [] [] d e = less_equal (sym e)
cmp_trans xs (y ∷ ys) [] d e = less_greater (sym e)
cmp_trans [] [] (z ∷ zs) d e = refl
cmp_trans [] (y ∷ ys) (z ∷ zs) d e = refl
cmp_trans (x ∷ xs) [] (z ∷ zs) d e = less_greater (sym d)
cmp_trans (x ∷ xs) (y ∷ ys) (z ∷ zs) d e =
    case_order x y
    (λ h.
    case_order y z (λ k. is-less x z (cmp_bytes xs zs) (omega arith)) (λ k. is-less x z (cmp_bytes xs zs) (omega arith))
    (λ k. less_greater (sym e ∙ is_greater y z (cmp_bytes ys zs) k)))
    (λ h.
    case_order y z (λ k. is-less x z (cmp_bytes xs zs) (omega arith))
    (λ k.
    is_same x z (cmp_bytes xs zs) (omega arith)
    ∙ cmp_trans xs ys zs (sym (is_same x y (cmp_bytes xs ys) h) ∙ d) (sym (is_same y z (cmp_bytes ys zs) k) ∙ e))
    (λ k. less_greater (sym e ∙ is_greater y z (cmp_bytes ys zs) k)))
    (λ h. less_greater (sym d ∙ is_greater x y (cmp_bytes xs ys) h))

-- a common front does not count
pub cmp_front : (p xs ys : List ℕ) → cmp_bytes (p ++ xs) (p ++ ys) ≡ cmp_bytes xs ys
unfolding cmp_bytes
cmp_front [] xs ys = refl
cmp_front (c ∷ p) xs ys = is_same c c (cmp_bytes (p ++ xs) (p ++ ys)) refl ∙ cmp_front p xs ys

-- a proper prefix is less
pub cmp_prefix : (xs : List ℕ) (y : ℕ) (ys : List ℕ) → cmp_bytes xs (xs ++ y ∷ ys) ≡ Less
unfolding cmp_bytes
cmp_prefix [] y ys = refl
cmp_prefix (x ∷ xs) y ys = is_same x x (cmp_bytes xs (xs ++ y ∷ ys)) refl ∙ cmp_prefix xs y ys

-- ---- a beginning

-- where p is no beginning of x, what stands behind p does not count
pub cmp_beside : (p r x : List ℕ) → starts_with p x ≡ false → cmp_bytes (p ++ r) x ≡ cmp_bytes p x
unfolding starts_with cmp_bytes
cmp_beside [] r x e = absurd (let z : ◌≡◌ {A = ℕ} 0 1 = cc in omega arith)
cmp_beside (c ∷ p) r [] e = refl
cmp_beside (c ∷ p) r (y ∷ x) e =
    case_order c y
    (λ h. is-less c y (cmp_bytes (p ++ r) x) h ∙ sym (is-less c y (cmp_bytes p x) h))
    (λ h.
    is_same c y (cmp_bytes (p ++ r) x) h
    ∙ cmp_beside p r x (sym (ap (λ (b : Bool). cond b (starts_with p x) false) (eq-eqb c y h)) ∙ e)
    ∙ sym (is_same c y (cmp_bytes p x) h))
    (λ h. is_greater c y (cmp_bytes (p ++ r) x) h ∙ sym (is_greater c y (cmp_bytes p x) h))

pub starts_cmp : (p s : List ℕ) → length p ≤ length s → starts_with p s ≡ is_equal (cmp_bytes p (take (length p) s))
unfolding starts_with cmp_bytes
starts_cmp [] s h = refl
starts_cmp (x ∷ p) [] h = absurd (omega arith)
starts_cmp (x ∷ p) (y ∷ s) h =
    case_order x y
    (λ l. ap (λ (b : Bool). cond b (starts_with p s) false) (ne_eqb x y (λ e. omega arith)) ∙ ap is_equal (sym (is-less x y (cmp_bytes p (take (length p) s)) l)))
    (λ l.
    ap (λ (b : Bool). cond b (starts_with p s) false) (eq-eqb x y l)
    ∙ starts_cmp p s (omega arith)
    ∙ ap is_equal (sym (is_same x y (cmp_bytes p (take (length p) s)) l)))
    (λ l. ap (λ (b : Bool). cond b (starts_with p s) false) (ne_eqb x y (λ e. omega arith)) ∙ ap is_equal (sym (is_greater x y (cmp_bytes p (take (length p) s)) l)))

pub starts-short : (p s : List ℕ) → length s < length p → starts_with p s ≡ false
unfolding starts_with
starts-short [] s h = absurd (omega arith)
starts-short (x ∷ p) [] h = refl
starts-short (x ∷ p) (y ∷ s) h =
    case_order x y (λ l. ap (λ (b : Bool). cond b (starts_with p s) false) (ne_eqb x y (λ e. omega arith)))
    (λ l. ap (λ (b : Bool). cond b (starts_with p s) false) (eq-eqb x y l) ∙ starts-short p s (omega arith))
    (λ l. ap (λ (b : Bool). cond b (starts_with p s) false) (ne_eqb x y (λ e. omega arith)))

-- a prefix is no longer than what it begins
pub starts-length : (p y : List ℕ) → starts_with p y ≡ true → length p ≤ length y
unfolding starts_with
starts-length [] y e = zero-le
starts-length (x ∷ xs) [] e = absurd (let z : ◌≡◌ {A = ℕ} 0 1 = cc in omega arith)
starts-length (x ∷ xs) (y ∷ ys) e = suc-le-suc (starts-length xs ys (go (eqb x y) e))
  where
    go : (b : Bool) → cond b (starts_with xs ys) false ≡ true → starts_with xs ys ≡ true
    go true q = q
    go false q = absurd (let z : ◌≡◌ {A = ℕ} 0 1 = cc in omega arith)

-- no bytes begin everything
pub starts_none : (p y : List ℕ) → length p ≡ 0 → starts_with p y ≡ true
unfolding starts_with
starts_none [] y e = refl
starts_none (x ∷ xs) y e = absurd (omega arith)

-- what begins with p is p and a rest, and the other way round
pub starts-append : (p r : List ℕ) → starts_with p (p ++ r) ≡ true
unfolding starts_with
starts-append [] r = refl
starts-append (x ∷ p) r = ap (λ (b : Bool). cond b (starts_with p (p ++ r)) false) (eq-eqb x x refl) ∙ starts-append p r

pub starts_split : (p s : List ℕ) → starts_with p s ≡ true → s ≡ p ++ drop (length p) s
unfolding starts_with
starts_split [] s e = refl
starts_split (x ∷ p) [] e = absurd (let z : ◌≡◌ {A = ℕ} 0 1 = cc in omega arith)
starts_split (x ∷ p) (y ∷ s) e =
    case_order x y
    (λ l. let f : cond (eqb x y) (starts_with p s) false ≡ false = ap (λ (b : Bool). cond b (starts_with p s) false) (ne_eqb x y (λ q. omega arith)) in absurd (let z : ◌≡◌ {A = ℕ} 0 1 = cc in omega arith))
    (λ l.
    ap₂ (λ (a : ℕ) (r : List ℕ). a ∷ r) (sym l)
    (starts_split p s (sym (ap (λ (b : Bool). cond b (starts_with p s) false) (eq-eqb x y l)) ∙ e)))
    (λ l. let f : cond (eqb x y) (starts_with p s) false ≡ false = ap (λ (b : Bool). cond b (starts_with p s) false) (ne_eqb x y (λ q. omega arith)) in absurd (let z : ◌≡◌ {A = ℕ} 0 1 = cc in omega arith))

pub starts_self : (p : List ℕ) → starts_with p p ≡ true
unfolding starts_with
starts_self [] = refl
starts_self (x ∷ p) = ap (λ (b : Bool). cond b (starts_with p p) false) (eq-eqb x x refl) ∙ starts_self p

-- what does not begin with p is below it or above
pub cmp_apart : (p x : List ℕ) → starts_with p x ≡ false → cmp_bytes p x ≡ Equal → ⊥
cmp_apart p x e q =
    let f : starts_with p x ≡ true = subst (λ (y : List ℕ). starts_with p y ≡ true) (cmp_eq p x q) (starts_self p) in
    let z : ◌≡◌ {A = ℕ} 0 1 = cc in
    omega arith
