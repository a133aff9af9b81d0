-- The laws of numbers in bytes, over the width.
-- Assumes nothing.
use mathlib.Core.Path.{◌≡◌, refl, sym, ap, ap₂, ◌∙◌, subst}
use mathlib.Core.List.{List, [], ◌∷◌, ◌++◌, reverse, reverse-append, reverse-reverse}
use Prim.Native.Nat.{ℕ, zero, suc, ◌+◌, ◌*◌, ◌/◌, ◌%◌, ◌^◌, ◌≤◌, ◌<◌}
use native.Mathlib.Nat.{pow-succ', div-add-mod, mod-lt, mod-eq_of_lt, div-div-eq-div-mul, mod-one, mul_assoc, zero-add, suc-add, add-mul-mod_self_left, div-one}
use native.Mathlib.Omega.{arith}
use lib.Dec.{lit<}
use lib.ListN.{length, take, drop, get_or, set, length-reverse}
use lib.Seq.{get_or-drop}
use Rattle.spans.specs.Span.{part, put, Lies}
use Rattle.spans.proofs.Part.{length_part, part_add, part-one, part_agree}
use Rattle.spans.proofs.Put.{put_next}
use Rattle.spans.proofs.Lying.{lies_part, put_lies, part_lies}
use Rattle.numbers.specs.Number.{le, of_le, be, of_be, le_at, be_at, turned, Bytes}

pub length-le : (k n : ℕ) → length (le k n) ≡ k
unfolding le
length-le zero n = refl
length-le (suc k) n = ap suc (length-le k (n / 256))

pub bytes_le : (k n : ℕ) → Bytes (le k n)
unfolding le
bytes_le zero n i = lit< tt
bytes_le (suc k) n zero = mod-lt n (lit< tt)
bytes_le (suc k) n (suc i) = bytes_le k (n / 256) i

pow_256 : (k : ℕ) → 256 ^ suc k ≡ 256 * 256 ^ k
pow_256 k = pow-succ' 256 k

pub pow_256_pos : (k : ℕ) → 0 < 256 ^ k
pow_256_pos zero = lit< tt
pow_256_pos (suc k) = omega (arith, pow_256 k, pow_256_pos k)

-- n % (256 * m) by its two parts
mod_256 : (n m : ℕ) → 0 < m → n % (256 * m) ≡ n % 256 + 256 * (n / 256 % m)
mod_256 n m h =
    let z : ℕ = n / 256 / m in
    let r : ℕ = n % 256 + 256 * (n / 256 % m) in
    let e : n ≡ r + 256 * m * z = omega (arith, div-add-mod (n / 256) m) in
    ap (λ (x : ℕ). x % (256 * m)) e ∙ add-mul-mod_self_left r (256 * m) z ∙ mod-eq_of_lt (omega (arith, mod-lt (n / 256) h))

mod_step : (k n : ℕ) → n % 256 ^ suc k ≡ n % 256 + 256 * (n / 256 % 256 ^ k)
mod_step k n = ap (λ (m : ℕ). n % m) (pow_256 k) ∙ mod_256 n (256 ^ k) (pow_256_pos k)

-- what was written is read back: the number, as far as k bytes hold it
pub of_le-le : (k n : ℕ) → of_le (le k n) ≡ n % 256 ^ k
unfolding le of_le
of_le-le zero n = sym (mod-one n)
of_le-le (suc k) n = ap (λ (m : ℕ). n % 256 + 256 * m) (of_le-le k (n / 256)) ∙ sym (mod_step k n)

pub of_le-le-small : (k n : ℕ) → n < 256 ^ k → of_le (le k n) ≡ n
of_le-le-small k n h = of_le-le k n ∙ mod-eq_of_lt h

-- what was read is written back
pub le-of_le : (bs : List ℕ) → Bytes bs → le (length bs) (of_le bs) ≡ bs
unfolding le of_le
le-of_le [] h = refl
le-of_le (b ∷ bs) h =
    let l : b < 256 = h 0 in
    let m : (b + 256 * of_le bs) % 256 ≡ b = omega arith in
    let d : (b + 256 * of_le bs) / 256 ≡ of_le bs = omega arith in
    ap₂ (λ (x : ℕ) (r : List ℕ). x ∷ r) m (ap (le (length bs)) d ∙ le-of_le bs (λ i. h (suc i)))

pub of_le_lt : (bs : List ℕ) → Bytes bs → of_le bs < 256 ^ length bs
unfolding of_le
of_le_lt [] h = lit< tt
of_le_lt (b ∷ bs) h = omega (arith, h 0, of_le_lt bs (λ i. h (suc i)), pow_256 (length bs))

-- two halves
pub of_le-append : (xs ys : List ℕ) → of_le (xs ++ ys) ≡ of_le xs + 256 ^ length xs * of_le ys
unfolding of_le
of_le-append [] ys = omega arith
of_le-append (x ∷ xs) ys = omega (arith, of_le-append xs ys, ap (λ (m : ℕ). m * of_le ys) (pow_256 (length xs)) ∙ mul_assoc 256 (256 ^ length xs) (of_le ys))

pub le-append : (j k n : ℕ) → le (j + k) n ≡ le j n ++ le k (n / 256 ^ j)
unfolding le
le-append zero k n = ap₂ le (zero-add k) (sym (div-one n))
le-append (suc j) k n =
    ap (λ (m : ℕ). le m n) (suc-add j k)
    ∙ ap (λ (r : List ℕ). n % 256 ∷ r)
    (le-append j k (n / 256)
    ∙ ap (λ (m : ℕ). le j (n / 256) ++ le k m) (div-div-eq-div-mul n 256 (256 ^ j) ∙ ap (λ (m : ℕ). n / m) (sym (pow_256 j))))

pub le_mod : (j n : ℕ) → le j (n % 256 ^ j) ≡ le j n
unfolding le
le_mod zero n = refl
le_mod (suc j) n =
    let e = mod_step j n in
    let m : n % 256 ^ suc j % 256 ≡ n % 256 = omega arith in
    let d : n % 256 ^ suc j / 256 ≡ n / 256 % 256 ^ j = omega arith in
    ap₂ (λ (x : ℕ) (r : List ℕ). x ∷ r) m (ap (le j) d ∙ le_mod j (n / 256))

-- ---- bytes, whatever their order

bytes-append : (xs ys : List ℕ) → Bytes xs → Bytes ys → Bytes (xs ++ ys)
bytes-append [] ys hx hy i = hy i
bytes-append (x ∷ xs) ys hx hy zero = hx 0
bytes-append (x ∷ xs) ys hx hy (suc i) = bytes-append xs ys (λ k. hx (suc k)) hy i

bytes_one : (x : ℕ) → x < 256 → Bytes (x ∷ [])
bytes_one x h zero = h
bytes_one x h (suc i) = lit< tt

bytes_take : (n : ℕ) (l : List ℕ) → Bytes l → Bytes (take n l)
bytes_take zero l h i = lit< tt
bytes_take (suc n) [] h i = lit< tt
bytes_take (suc n) (x ∷ l) h zero = h 0
bytes_take (suc n) (x ∷ l) h (suc i) = bytes_take n l (λ k. h (suc k)) i

bytes_reverse : (l : List ℕ) → Bytes l → Bytes (reverse l)
bytes_reverse [] h = h
bytes_reverse (x ∷ l) h =
    subst Bytes (sym (reverse-append (x ∷ []) l)) (bytes-append (reverse l) (x ∷ []) (bytes_reverse l (λ i. h (suc i))) (bytes_one x (h 0)))

-- ---- the highest byte first

pub length-be : (k n : ℕ) → length (be k n) ≡ k
unfolding be
length-be k n = length-reverse (le k n) ∙ length-le k n

pub of_be-be : (k n : ℕ) → of_be (be k n) ≡ n % 256 ^ k
unfolding be of_be
of_be-be k n = ap of_le (reverse-reverse (le k n)) ∙ of_le-le k n

pub of_be-append : (xs ys : List ℕ) → of_be (xs ++ ys) ≡ of_be ys + 256 ^ length ys * of_be xs
unfolding of_be
of_be-append xs ys =
    ap of_le (reverse-append xs ys) ∙ of_le-append (reverse ys) (reverse xs) ∙ ap (λ (m : ℕ). of_le (reverse ys) + 256 ^ m * of_le (reverse xs)) (length-reverse ys)

-- every byte below 256, the highest first too
pub bytes-be : (k n : ℕ) → Bytes (be k n)
unfolding be
bytes-be k n = bytes_reverse (le k n) (bytes_le k n)

pub of_be-be-small : (k n : ℕ) → n < 256 ^ k → of_be (be k n) ≡ n
of_be-be-small k n h = of_be-be k n ∙ mod-eq_of_lt h

pub be-of_be : (bs : List ℕ) → Bytes bs → be (length bs) (of_be bs) ≡ bs
unfolding be of_be
be-of_be bs h =
    ap (λ (k : ℕ). reverse (le k (of_le (reverse bs)))) (sym (length-reverse bs))
    ∙ ap reverse (le-of_le (reverse bs) (bytes_reverse bs h))
    ∙ reverse-reverse bs

pub of_be_lt : (bs : List ℕ) → Bytes bs → of_be bs < 256 ^ length bs
unfolding of_be
of_be_lt bs h = omega (arith, of_le_lt (reverse bs) (bytes_reverse bs h), ap (λ (k : ℕ). 256 ^ k) (length-reverse bs))

-- a number has one form of a given length
pub of_le_inj : (xs ys : List ℕ) → length xs ≡ length ys → Bytes xs → Bytes ys → of_le xs ≡ of_le ys → xs ≡ ys
of_le_inj xs ys l hx hy e = sym (le-of_le xs hx) ∙ ap₂ le l e ∙ le-of_le ys hy

pub of_be_inj : (xs ys : List ℕ) → length xs ≡ length ys → Bytes xs → Bytes ys → of_be xs ≡ of_be ys → xs ≡ ys
of_be_inj xs ys l hx hy e = sym (be-of_be xs hx) ∙ ap₂ be l e ∙ be-of_be ys hy

-- ---- in a slice: a number of j + k bytes is read and stored in two halves

pub read-le : (l : List ℕ) (i j k : ℕ) → i + j ≤ length l → le_at (j + k) l i ≡ le_at j l i + 256 ^ j * le_at k l (i + j)
unfolding le_at
read-le l i j k h =
    ap of_le (part_add l i j k) ∙ of_le-append (part l i j) (part l (i + j) k) ∙ ap (λ (m : ℕ). of_le (part l i j) + 256 ^ m * of_le (part l (i + j) k)) (length_part l i j h)

pub read-be : (l : List ℕ) (i j k : ℕ) → i + j + k ≤ length l → be_at (j + k) l i ≡ be_at k l (i + j) + 256 ^ k * be_at j l i
unfolding be_at
read-be l i j k h =
    ap of_be (part_add l i j k) ∙ of_be-append (part l i j) (part l (i + j) k) ∙ ap (λ (m : ℕ). of_be (part l (i + j) k) + 256 ^ m * of_be (part l i j)) (length_part l (i + j) k h)

pub put-le : (a : List ℕ) (i j k n : ℕ) → put (put a i (le j (n % 256 ^ j))) (i + j) (le k (n / 256 ^ j)) ≡ put a i (le (j + k) n)
put-le a i j k n =
    ap (λ (x : List ℕ). put (put a i x) (i + j) (le k (n / 256 ^ j))) (le_mod j n)
    ∙ put_next a i (le j n) (le k (n / 256 ^ j)) (i + j) (ap (λ (m : ℕ). i + m) (sym (length-le j n)))
    ∙ ap (put a i) (sym (le-append j k n))

-- what lies at an index is read, at every width
pub lies_le : (a : List ℕ) (i k n : ℕ) → n < 256 ^ k → Lies a i (le k n) → le_at k a i ≡ n
unfolding le_at
lies_le a i k n h e = ap of_le (lies_part a i k (le k n) (sym (length-le k n)) e) ∙ of_le-le-small k n h

pub lies_be : (a : List ℕ) (i k n : ℕ) → n < 256 ^ k → Lies a i (be k n) → be_at k a i ≡ n
unfolding be_at
lies_be a i k n h e = ap of_be (lies_part a i k (be k n) (sym (length-be k n)) e) ∙ of_be-be-small k n h

-- so what was stored is read back
pub read-put-le : (a : List ℕ) (i k n : ℕ) → i + k ≤ length a → n < 256 ^ k → le_at k (put a i (le k n)) i ≡ n
read-put-le a i k n h l = lies_le (put a i (le k n)) i k n l (put_lies a i (le k n) (omega (arith, length-le k n)))

-- a number at an index depends on its bytes alone
pub le_at_agree : (a b : List ℕ) (k i m : ℕ) → i + k ≤ m → take m a ≡ take m b → le_at k a i ≡ le_at k b i
unfolding le_at
le_at_agree a b k i m h e = ap of_le (part_agree a b i k m h e)

-- ---- a part's bytes are bytes

pub bytes-part : (l : List ℕ) (i n : ℕ) → Bytes l → Bytes (part l i n)
unfolding part
bytes-part l i n h = bytes_take n (drop i l) (λ k. subst (λ (x : ℕ). x < 256) (sym (get_or-drop i l k 0)) (h (i + k)))

-- a number that was read with the lowest byte first
pub turned_le : (l : List ℕ) (i k : ℕ) → i + k ≤ length l → Bytes l → turned k (le_at k l i) ≡ be_at k l i
unfolding turned le_at be_at
turned_le l i k h b =
    ap of_be (ap (λ (m : ℕ). le m (of_le (part l i k))) (sym (length_part l i k h)) ∙ le-of_le (part l i k) (bytes-part l i k b))

pub le_at_lt : (l : List ℕ) (i k : ℕ) → i + k ≤ length l → Bytes l → le_at k l i < 256 ^ k
unfolding le_at
le_at_lt l i k f h = omega (arith, of_le_lt (part l i k) (bytes-part l i k h), ap (λ (m : ℕ). 256 ^ m) (length_part l i k f))

-- ---- one byte, and a number with what follows

pub put1 : (a : List ℕ) (i x : ℕ) → x < 256 → set a i x ≡ put a i (le 1 x)
unfolding le put
put1 a i x l = ap (λ (v : ℕ). set a i v) (sym (mod-eq_of_lt l))

-- a number and what follows it: a run of stores, one a field
pub put_then : (a : List ℕ) (i k n : ℕ) (y : List ℕ) → put a i (le k n ++ y) ≡ put (put a i (le k n)) (i + k) y
put_then a i k n y = sym (put_next a i (le k n) y (i + k) (ap (λ (m : ℕ). i + m) (sym (length-le k n))))

-- what was read would have been written there
pub le_lies : (a : List ℕ) (i k : ℕ) → i + k ≤ length a → Bytes a → Lies a i (le k (le_at k a i))
unfolding le_at
le_lies a i k h hb =
    subst (λ (x : List ℕ). Lies a i x)
    (sym (ap (λ (m : ℕ). le m (of_le (part a i k))) (sym (length_part a i k h)) ∙ le-of_le (part a i k) (bytes-part a i k hb)))
    (part_lies a i k h)

-- a number of one byte is the byte
pub le_at-one : (s : List ℕ) (i : ℕ) → i < length s → le_at 1 s i ≡ get_or s i 0
unfolding le_at of_le
le_at-one s i h = ap of_le (part-one s i h) ∙ omega arith
