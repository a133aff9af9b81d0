-- What the library's methods on numbers say, in `le`, `le_at` and `turned`.
-- Assumes nothing.
use Rattle.std.proofs.Common.{◌≡◌, refl, sym, ap, ap₂, ◌∙◌, List, [], ◌∷◌, length, ℕ, zero, suc, ◌+◌, ◌*◌, ◌/◌, ◌%◌, ◌^◌, ◌≤◌, ◌<◌, w16, w32, w64}
use Rattle.std.specs.Int.{from_le_bytes, from_be_bytes, to_le_bytes, swap_bytes, bytes_low_first}
use native.Mathlib.Nat.{div-div-eq-div-mul, div-one, pow-suc}
use native.Mathlib.Omega.{arith}
use lib.ListN.{get_or}
use borrow.Rule.Slice.PartMut.{put_mid}
use Rattle.spans.specs.Span.{part, put}
use Rattle.spans.proofs.Part.{part_suc}
use Rattle.spans.proofs.Put.{put_mid-put}
use Rattle.numbers.specs.Number.{le, of_le, of_be, le_at, be_at, turned, Bytes}
use Rattle.numbers.proofs.Numbers.{length-le, turned_le, read-be}

-- ---- what is read: a number at an index, byte by byte

step : (l : List ℕ) (i j k : ℕ) → i < length l → j ≡ i + 1 → le_at (suc k) l i ≡ get_or l i 0 + 256 * le_at k l j
unfolding le_at of_le
step l i j k h e = ap of_le (part_suc l i k h) ∙ ap (λ (n : ℕ). get_or l i 0 + 256 * of_le (part l n k)) (sym e)

nothing : (l : List ℕ) (i : ℕ) → le_at 0 l i ≡ 0
unfolding le_at of_le part
nothing l i = refl

module _ (l : List ℕ) (i : ℕ) where
  pub read_2 : i + 2 ≤ length l → from_le_bytes w16 (get_or l i 0 ∷ get_or l (i + 1) 0 ∷ []) ≡ le_at 2 l i
  read_2 h = omega (arith, step l i (i + 1) 1 (omega arith) refl, step l (i + 1) (i + 2) 0 (omega arith) (omega arith), nothing l (i + 2))

  pub read_4 : i + 4 ≤ length l → from_le_bytes w32 (get_or l i 0 ∷ get_or l (i + 1) 0 ∷ get_or l (i + 2) 0 ∷ get_or l (i + 3) 0 ∷ []) ≡ le_at 4 l i
  read_4 h =
      omega
      (arith, step l i (i + 1) 3 (omega arith) refl, step l (i + 1) (i + 2) 2 (omega arith) (omega arith), step l (i + 2) (i + 3) 1 (omega arith) (omega arith), step l (i + 3) (i + 4) 0 (omega arith) (omega arith), nothing l (i + 4))

  pub read_8 : i + 8 ≤ length l
      → from_le_bytes w64 (get_or l i 0 ∷ get_or l (i + 1) 0 ∷ get_or l (i + 2) 0 ∷ get_or l (i + 3) 0 ∷ get_or l (i + 4) 0 ∷ get_or l (i + 5) 0 ∷ get_or l (i + 6) 0 ∷ get_or l (i + 7) 0 ∷ []) ≡ le_at 8 l i
  read_8 h =
      omega
      (arith, step l i (i + 1) 7 (omega arith) refl, step l (i + 1) (i + 2) 6 (omega arith) (omega arith), step l (i + 2) (i + 3) 5 (omega arith) (omega arith), step l (i + 3) (i + 4) 4 (omega arith) (omega arith), step l (i + 4) (i + 5) 3 (omega arith) (omega arith), step l (i + 5) (i + 6) 2 (omega arith) (omega arith), step l (i + 6) (i + 7) 1 (omega arith) (omega arith), step l (i + 7) (i + 8) 0 (omega arith) (omega arith), nothing l (i + 8))

-- ---- what is stored

low_first : (k i n m : ℕ) → m ≡ n / 256 ^ i → bytes_low_first i k n ≡ le k m
unfolding le
low_first zero i n m e = refl
low_first (suc k) zero n m e = ap₂ (λ (x : ℕ) (r : List ℕ). x ∷ r) (ap (λ (x : ℕ). x % 256) (sym (e ∙ div-one n))) (low_first k 1 n (m / 256) (ap (λ (x : ℕ). x / 256) (e ∙ div-one n)))
low_first (suc k) (suc i) n m e = ap₂ (λ (x : ℕ) (r : List ℕ). x ∷ r) (ap (λ (x : ℕ). x % 256) (sym e)) (low_first k (suc (suc i)) n (m / 256) (ap (λ (x : ℕ). x / 256) e ∙ div-div-eq-div-mul n (256 ^ suc i) 256 ∙ ap (λ (x : ℕ). n / x) (sym (pow-suc 256 (suc i)))))

written_2 : (n : ℕ) → to_le_bytes w16 n ≡ le 2 n
written_2 n = low_first 2 0 n n (sym (div-one n))

written_4 : (n : ℕ) → to_le_bytes w32 n ≡ le 4 n
written_4 n = low_first 4 0 n n (sym (div-one n))

written_8 : (n : ℕ) → to_le_bytes w64 n ≡ le 8 n
written_8 n = low_first 8 0 n n (sym (div-one n))

stored : (a : List ℕ) (i k m n : ℕ) (x : List ℕ) → x ≡ le m n → k ≡ m → i + m ≤ length a → put_mid i k a x ≡ put a i (le m n)
stored a i k m n x e f h = rw e (put_mid-put a i k (le m n) (omega (arith, length-le m n)) (omega arith))

-- to a part of a slice
module _ (a : List ℕ) (i k n : ℕ) (x : List ℕ) where
  pub stored_2 : x ≡ to_le_bytes w16 n → k ≡ 2 → i + 2 ≤ length a → put_mid i k a x ≡ put a i (le 2 n)
  stored_2 e f h = stored a i k 2 n x (e ∙ written_2 n) f h

  pub stored_4 : x ≡ to_le_bytes w32 n → k ≡ 4 → i + 4 ≤ length a → put_mid i k a x ≡ put a i (le 4 n)
  stored_4 e f h = stored a i k 4 n x (e ∙ written_4 n) f h

  pub stored_8 : x ≡ to_le_bytes w64 n → k ≡ 8 → i + 8 ≤ length a → put_mid i k a x ≡ put a i (le 8 n)
  stored_8 e f h = stored a i k 8 n x (e ∙ written_8 n) f h

-- ---- turned round

of_be_2 : (a b : ℕ) → from_be_bytes w16 (a ∷ b ∷ []) ≡ of_be (a ∷ b ∷ [])
unfolding of_be of_le
of_be_2 a b = omega arith

of_be_4 : (a b c d : ℕ) → from_be_bytes w32 (a ∷ b ∷ c ∷ d ∷ []) ≡ of_be (a ∷ b ∷ c ∷ d ∷ [])
unfolding of_be of_le
of_be_4 a b c d = omega arith

of_be_8 : (a b c d e f g h : ℕ) → from_be_bytes w64 (a ∷ b ∷ c ∷ d ∷ e ∷ f ∷ g ∷ h ∷ []) ≡ of_be (a ∷ b ∷ c ∷ d ∷ e ∷ f ∷ g ∷ h ∷ [])
unfolding of_be of_le
of_be_8 a b c d e f g h = omega arith

swapped_2 : (n : ℕ) → swap_bytes w16 n ≡ turned 2 n
unfolding turned le
swapped_2 n = ap (from_be_bytes w16) (written_2 n) ∙ of_be_2 _ _

swapped_4 : (n : ℕ) → swap_bytes w32 n ≡ turned 4 n
unfolding turned le
swapped_4 n = ap (from_be_bytes w32) (written_4 n) ∙ of_be_4 _ _ _ _

swapped_8 : (n : ℕ) → swap_bytes w64 n ≡ turned 8 n
unfolding turned le
swapped_8 n = ap (from_be_bytes w64) (written_8 n) ∙ of_be_8 _ _ _ _ _ _ _ _

-- a number that was read with its lowest byte first
module _ (l : List ℕ) (i n r : ℕ) (b : Bytes l) where
  pub turned_2 : n ≡ le_at 2 l i → r ≡ swap_bytes w16 n → i + 2 ≤ length l → r ≡ be_at 2 l i
  turned_2 e f h = f ∙ swapped_2 n ∙ ap (turned 2) e ∙ turned_le l i 2 h b

  pub turned_4 : n ≡ le_at 4 l i → r ≡ swap_bytes w32 n → i + 4 ≤ length l → r ≡ be_at 4 l i
  turned_4 e f h = f ∙ swapped_4 n ∙ ap (turned 4) e ∙ turned_le l i 4 h b

  pub turned_8 : n ≡ le_at 8 l i → r ≡ swap_bytes w64 n → i + 8 ≤ length l → r ≡ be_at 8 l i
  turned_8 e f h = f ∙ swapped_8 n ∙ ap (turned 8) e ∙ turned_le l i 8 h b

-- of two halves that were read so: an edit that exchanges them is refused for their worth, and their right order would be proved
pub halves_4 : (l : List ℕ) (i a b : ℕ) → a ≡ be_at 2 l (i + 2) → b ≡ be_at 2 l i → i + 4 ≤ length l → a + 65536 * b ≡ be_at 4 l i
halves_4 l i a b e f h = omega (arith, e, f, read-be l i 2 2 (omega arith))
