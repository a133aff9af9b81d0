-- The laws of `part`.
-- Assumes nothing.
use mathlib.Core.Path.{◌≡◌, refl, sym, ap, ap₂, ◌∙◌}
use mathlib.Core.List.{List, [], ◌∷◌, ◌++◌}
use Prim.Native.Nat.{ℕ, zero, suc, ◌+◌, ◌-◌, ◌≤◌, ◌<◌}
use native.Mathlib.Numerals.{add-one}
use native.Mathlib.Omega.{arith}
use native.Mathlib.Decide.{dec_le}
use native.Mathlib.Nat.{lt_of_not-le}
use lib.ListN.{length, take, drop, get_or, length-take, length-drop}
use lib.Seq.{take-take, drop-drop, get_or-take, get_or-drop, take-add, drop-cons, take-append_seam, drop-append_seam, take-length, take_all}
use borrow.Author.Tests.{le-leb, lt-leb}
use Rattle.spans.specs.Span.{part, part_or}

pub length_part : (l : List ℕ) (i n : ℕ) → i + n ≤ length l → length (part l i n) ≡ n
unfolding part
length_part l i n h = simp (length-take, length-drop) (omega arith)

pub get_d_part : (l : List ℕ) (i n k d : ℕ) → k < n → get_or (part l i n) k d ≡ get_or l (i + k) d
unfolding part
get_d_part l i n k d h = get_or-take n (drop i l) k d h ∙ get_or-drop i l k d

-- two parts side by side
pub part_add : (l : List ℕ) (i j k : ℕ) → part l i (j + k) ≡ part l i j ++ part l (i + j) k
unfolding part
part_add l i j k = take-add j k (drop i l) ∙ ap (λ (r : List ℕ). take j (drop i l) ++ take k r) (drop-drop j i l)

pub part_zero : (l : List ℕ) (i : ℕ) → part l i 0 ≡ []
unfolding part
part_zero l i = refl

pub part_suc : (l : List ℕ) (i n : ℕ) → i < length l → part l i (suc n) ≡ get_or l i 0 ∷ part l (i + 1) n
unfolding part
part_suc l i n h = ap (take (suc n)) (drop-cons l i 0 h) ∙ ap (λ (k : ℕ). get_or l i 0 ∷ take n (drop k l)) (sym (add-one i))

pub part-one : (l : List ℕ) (i : ℕ) → i < length l → part l i 1 ≡ get_or l i 0 ∷ []
part-one l i h = part_suc l i 0 h ∙ ap (λ (r : List ℕ). get_or l i 0 ∷ r) (part_zero l (i + 1))

-- the whole list
pub part-all : (l : List ℕ) → part l 0 (length l) ≡ l
unfolding part
part-all l = take-length l

-- a part lies before its end, so only what stands there counts
pub part-take : (i : ℕ) (l : List ℕ) (n m : ℕ) → i + n ≤ m → part (take m l) i n ≡ part l i n
unfolding part
part-take zero l n m h = take-take n m l (omega arith)
part-take (suc i) l n zero h = absurd (omega arith)
part-take (suc i) [] n (suc m) h = refl
part-take (suc i) (x ∷ xs) n (suc m) h = part-take i xs n m (omega arith)

pub part_agree : (a b : List ℕ) (i n m : ℕ) → i + n ≤ m → take m a ≡ take m b → part a i n ≡ part b i n
part_agree a b i n m h e = sym (part-take i a n m h) ∙ ap (λ (l : List ℕ). part l i n) e ∙ part-take i b n m h

-- a part of a part
pub part-drop : (l : List ℕ) (i j n : ℕ) → part (drop i l) j n ≡ part l (i + j) n
unfolding part
part-drop l i j n = ap (take n) (drop-drop j i l)

pub part-part : (l : List ℕ) (i m j n : ℕ) → j + n ≤ m → part (part l i m) j n ≡ part l (i + j) n
unfolding part
part-part l i m j n h = part-take j (drop i l) n m h ∙ part-drop l i j n

-- a field of what stands at an index: p, then q, then anything
pub part_field : (s : List ℕ) (at : ℕ) (p q r : List ℕ) (i n : ℕ) → drop at s ≡ p ++ (q ++ r) → i ≡ at + length p → n ≡ length q → part s i n ≡ q
unfolding part
part_field s at p q r i n e hi hn =
    ap₂ (λ (j k : ℕ). take k (drop j s)) hi hn
    ∙ ap (take (length q)) (sym (drop-drop (length p) at s) ∙ ap (drop (length p)) e ∙ drop-append_seam p (q ++ r))
    ∙ take-append_seam q r

-- ---- the part that is lent, or the empty one

pub part_or_in : (s : List ℕ) (i n : ℕ) → i + n ≤ length s → part_or s i n ≡ part s i n
unfolding part_or
part_or_in s i n h = simp (le-leb i (length s) (omega arith), le-leb n (length s - i) (omega arith))

pub part_or_out : (s : List ℕ) (i n : ℕ) → length s < i + n → part_or s i n ≡ []
unfolding part_or
part_or_out s i n h =
    elim (dec_le i (length s)) [
      | no p ↦ simp (lt-leb i (length s) (lt_of_not-le p))
      | yes p ↦ simp (le-leb i (length s) p, lt-leb n (length s - i) (omega arith))
    ]

-- a byte before the end of what two lists share
pub get_d_agree : (a b : List ℕ) (k m d : ℕ) → k < m → take m a ≡ take m b → get_or a k d ≡ get_or b k d
get_d_agree a b k m d h e = sym (get_or-take m a k d h) ∙ ap (λ (l : List ℕ). get_or l k d) e ∙ get_or-take m b k d h

-- the part of a slice from k to its end
pub tail_part : (s : List ℕ) (k : ℕ) → take (length s - k) (drop k s) ≡ drop k s
tail_part s k = take_all (length s - k) (drop k s) (omega (arith, length-drop k s))
