-- Bytes compared w at a time: two stretches as long as each other compare as their numbers, the highest byte first. One law over the width.
-- Assumes nothing.
use mathlib.Core.Path.{◌≡◌, refl, sym, ap, ap₂, ◌∙◌}
use mathlib.Core.List.{List, [], ◌∷◌, ◌++◌}
use mathlib.Core.Logic.{◌⊎◌, ⊎_elim, inl, inr}
use Prim.Native.Nat.{ℕ, suc, min, ◌+◌, ◌*◌, ◌^◌, ◌≤◌, ◌<◌}
use native.Mathlib.Nat.{mul-le-mul_left}
use native.Mathlib.Numerals.{add-one}
use native.Mathlib.Omega.{arith}
use lib.ListN.{length, take, drop, get_or, take-append-drop, drop_of_length-le}
use lib.Seq.{drop-drop, drop-cons}
use Rattle.spans.specs.Span.{part}
use Rattle.spans.proofs.Part.{length_part}
use Rattle.numbers.specs.Number.{Bytes, of_le, of_be, be_at}
use Rattle.numbers.proofs.Numbers.{of_be-append, of_be_lt, of_be_inj, bytes-part}
use Rattle.std.specs.declared.cmp.Ordering.{Ordering}
use Rattle.std.specs.declared.cmp.Ordering.TheVariants.{Less, Equal, Greater}
use Rattle.std.specs.Ordering.{nat_cmp}
use borrow.Author.Tests.{lt-ltb, le-ltb, eq-eqb, ne_eqb}
use Rattle.order.specs.Order.{by_number, cmp_bytes, flip}
use Rattle.order.proofs.Laws.{case_order, is-less, is_greater, is_same, cmp_flip, cmp_front}

of_be_cons : (x : ℕ) (xs : List ℕ) → of_be (x ∷ xs) ≡ of_be xs + 256 ^ length xs * x
unfolding of_be of_le
of_be_cons x xs = of_be-append (x ∷ []) xs ∙ omega arith

-- the highest byte decides first
top_le : (p a b x y : ℕ) → b < p → a + p * x ≤ b + p * y → x ≤ y
top_le p a b x y h e = case_order x y (λ l. omega arith) (λ l. omega arith) (λ l. absurd (omega (arith, mul-le-mul_left p l)))

top : (x y : ℕ) (xs ys : List ℕ) → length xs ≡ length ys → Bytes ys → of_be (x ∷ xs) ≤ of_be (y ∷ ys) → x ≤ y
top x y xs ys l hy h =
    let p : 256 ^ length xs ≡ 256 ^ length ys = ap (λ (k : ℕ). 256 ^ k) l in
    let q : 256 ^ length xs * y ≡ 256 ^ length ys * y = ap (λ (k : ℕ). k * y) p in
    top_le (256 ^ length xs) (of_be xs) (of_be ys) x y (omega (arith, of_be_lt ys hy)) (omega (arith, of_be_cons x xs, of_be_cons y ys))

rest_weight : (x y : ℕ) (xs ys : List ℕ) → length xs ≡ length ys → x ≡ y → 256 ^ length xs * x ≡ 256 ^ length ys * y
rest_weight x y xs ys l e = ap₂ (λ (k z : ℕ). 256 ^ k * z) l e

word-less : (xs ys us vs : List ℕ) → length xs ≡ length ys → Bytes ys → of_be xs < of_be ys → cmp_bytes (xs ++ us) (ys ++ vs) ≡ Less
unfolding cmp_bytes
word-less [] [] us vs l hy h = absurd (omega arith)
word-less [] (y ∷ ys) us vs l hy h = absurd (omega arith)
word-less (x ∷ xs) [] us vs l hy h = absurd (omega arith)
word-less (x ∷ xs) (y ∷ ys) us vs l hy h =
    let k : length xs ≡ length ys = omega arith in
    let t : x ≤ y = top x y xs ys k (λ i. hy (suc i)) (omega arith) in
    case_order x y (λ p. is-less x y (cmp_bytes (xs ++ us) (ys ++ vs)) p)
    (λ p.
    is_same x y (cmp_bytes (xs ++ us) (ys ++ vs)) p
    ∙ word-less xs ys us vs k (λ i. hy (suc i)) (omega (arith, rest_weight x y xs ys k p, of_be_cons x xs, of_be_cons y ys)))
    (λ p. absurd (omega arith))

-- words in front: by their numbers, then by what follows
words : (xs ys us vs : List ℕ) → length xs ≡ length ys → Bytes xs → Bytes ys
    → cmp_bytes (xs ++ us) (ys ++ vs) ≡ by_number (of_be xs) (of_be ys) (cmp_bytes us vs)
words xs ys us vs l hx hy =
    case_order (of_be xs) (of_be ys) (λ h. word-less xs ys us vs l hy h ∙ sym (is-less (of_be xs) (of_be ys) (cmp_bytes us vs) h))
    (λ h.
    ap (λ (r : List ℕ). cmp_bytes (r ++ us) (ys ++ vs)) (of_be_inj xs ys l hx hy h)
    ∙ cmp_front ys us vs
    ∙ sym (is_same (of_be xs) (of_be ys) (cmp_bytes us vs) h))
    (λ h.
    cmp_flip (ys ++ vs) (xs ++ us)
    ∙ ap flip (word-less ys xs vs us (sym l) hx h)
    ∙ sym (is_greater (of_be xs) (of_be ys) (cmp_bytes us vs) h))

-- two numbers that differ, by the library's order
nat_less : (x y : ℕ) → x < y → nat_cmp x y ≡ Less
nat_less x y h = simp (lt-ltb x y h)

nat_greater : (x y : ℕ) → y < x → nat_cmp x y ≡ Greater
nat_greater x y h = simp (le-ltb x y (omega arith), ne_eqb x y (λ e. omega arith))

nat_same : (x y : ℕ) → x ≡ y → nat_cmp x y ≡ Equal
nat_same x y e = simp (le-ltb x y (omega arith), eq-eqb x y e)

differ : (x y : ℕ) (c : Ordering) → (x ≡ y → ⊥) → nat_cmp x y ≡ by_number x y c
differ x y c h = case_order x y (λ l. nat_less x y l ∙ sym (is-less x y c l)) (λ e. absurd (h e)) (λ l. nat_greater x y l ∙ sym (is_greater x y c l))

front : (a : List ℕ) (i w : ℕ) → drop i a ≡ part a i w ++ drop (i + w) a
unfolding part
front a i w = sym (take-append-drop w (drop i a)) ∙ ap (λ (r : List ℕ). take w (drop i a) ++ r) (drop-drop w i a)

module _ (a b : List ℕ) (ha : Bytes a) (hb : Bytes b) where
  -- w bytes of what is left behind index i
  pub step : (w i : ℕ) → i + w ≤ length a → i + w ≤ length b
      → cmp_bytes (drop i a) (drop i b) ≡ by_number (be_at w a i) (be_at w b i) (cmp_bytes (drop (i + w) a) (drop (i + w) b))
  unfolding be_at
  step w i p q =
      ap₂ cmp_bytes (front a i w) (front b i w)
      ∙ words (part a i w) (part b i w) (drop (i + w) a) (drop (i + w) b) (length_part a i w p ∙ sym (length_part b i w q)) (bytes-part a i w ha) (bytes-part b i w hb)

  module _ (w i : ℕ) (p : i + w ≤ length a) (q : i + w ≤ length b) where
    -- words that differ decide as numbers do
    pub step_differ : (be_at w a i ≡ be_at w b i → ⊥) → nat_cmp (be_at w a i) (be_at w b i) ≡ cmp_bytes (drop i a) (drop i b)
    step_differ h = differ (be_at w a i) (be_at w b i) _ h ∙ sym (step w i p q)

    pub step_same : be_at w a i ≡ be_at w b i → cmp_bytes (drop i a) (drop i b) ≡ cmp_bytes (drop (i + w) a) (drop (i + w) b)
    step_same h = step w i p q ∙ is_same (be_at w a i) (be_at w b i) _ h

-- a byte, as an element of the list
module _ (a b : List ℕ) (i : ℕ) (p : i < length a) (q : i < length b) where
  byte : cmp_bytes (drop i a) (drop i b) ≡ by_number (get_or a i 0) (get_or b i 0) (cmp_bytes (drop (i + 1) a) (drop (i + 1) b))
  unfolding cmp_bytes
  byte = rw (drop-cons a i 0 p, drop-cons b i 0 q, add-one i) refl

  pub byte_less : get_or a i 0 < get_or b i 0 → cmp_bytes (drop i a) (drop i b) ≡ Less
  byte_less h = byte ∙ is-less _ _ _ h

  pub byte_greater : get_or b i 0 < get_or a i 0 → cmp_bytes (drop i a) (drop i b) ≡ Greater
  byte_greater h = byte ∙ is_greater _ _ _ h

  pub byte_same : get_or a i 0 ≤ get_or b i 0 → get_or b i 0 ≤ get_or a i 0 → cmp_bytes (drop i a) (drop i b) ≡ cmp_bytes (drop (i + 1) a) (drop (i + 1) b)
  byte_same h k = byte ∙ is_same (get_or a i 0) (get_or b i 0) _ (omega arith)

  pub byte_differ : (get_or a i 0 ≡ get_or b i 0 → ⊥) → nat_cmp (get_or a i 0) (get_or b i 0) ≡ cmp_bytes (drop i a) (drop i b)
  byte_differ h = differ (get_or a i 0) (get_or b i 0) _ h ∙ sym byte

-- where one string ends, the lengths decide
pub ends : (a b : List ℕ) (i : ℕ) → i ≤ length a → i ≤ length b → (length a ≤ i) ⊎ (length b ≤ i) → cmp_bytes (drop i a) (drop i b) ≡ by_number (length a) (length b) Equal
unfolding cmp_bytes
ends a b i p q o =
    case_order (length a) (length b)
    (λ h.
    let la : length a ≤ i = ⊎_elim (λ x. x) (λ x. omega arith) o in
    rw (drop_of_length-le a la, drop-cons b i 0 (omega arith)) (sym (is-less (length a) (length b) Equal h)))
    (λ h.
    let la : length a ≤ i = ⊎_elim (λ x. x) (λ x. omega arith) o in
    let lb : length b ≤ i = ⊎_elim (λ x. omega arith) (λ x. x) o in
    rw (drop_of_length-le a la, drop_of_length-le b lb) (sym (is_same (length a) (length b) Equal h)))
    (λ h.
    let lb : length b ≤ i = ⊎_elim (λ x. omega arith) (λ x. x) o in
    rw (drop_of_length-le b lb, drop-cons a i 0 (omega arith)) (sym (is_greater (length a) (length b) Equal h)))

pub ended : (a b : List ℕ) (i : ℕ) → i ≤ length a → i ≤ length b → min (length a) (length b) ≤ i → nat_cmp (length a) (length b) ≡ cmp_bytes (drop i a) (drop i b)
ended a b i p q m =
    case_order (length a) (length b)
    (λ h. nat_less (length a) (length b) h ∙ sym (ends a b i p q (inl (omega arith)) ∙ is-less (length a) (length b) Equal h))
    (λ e. nat_same (length a) (length b) e ∙ sym (ends a b i p q (inl (omega arith)) ∙ is_same (length a) (length b) Equal e))
    (λ h. nat_greater (length a) (length b) h ∙ sym (ends a b i p q (inr (omega arith)) ∙ is_greater (length a) (length b) Equal h))
