-- Two words as one number, and a short string as one: it stands as the strings do.
-- Assumes nothing.
use mathlib.Core.Path.{◌≡◌, sym, ap, ap₂, ◌∙◌}
use mathlib.Core.List.{List}
use Prim.Native.Nat.{ℕ, ◌+◌, ◌-◌, ◌*◌, ◌^◌, ◌≤◌, ◌<◌}
use native.Mathlib.Nat.{mul-le-mul_left}
use native.Mathlib.Omega.{arith}
use native.Mathlib.Decide.{dec_le}
use lib.ListN.{length, get_or}
use borrow.Author.Tests.{le-leb, lt-leb, eq-eqb, ne_eqb}
use Rattle.spans.specs.Span.{part}
use Rattle.spans.proofs.Part.{length_part, part-one}
use Rattle.numbers.specs.Number.{Bytes, of_le, of_be, be_at}
use Rattle.numbers.proofs.Numbers.{of_be_lt, bytes-part}
use Rattle.std.specs.declared.cmp.Ordering.{Ordering}
use Rattle.std.specs.declared.cmp.Ordering.TheVariants.{Equal}
use Rattle.order.specs.Order.{by_number, cmp_bytes}
use Rattle.order.proofs.Laws.{case_order, is-less, is_greater, is_same}
use Rattle.order.proofs.Words.{step}
use Rattle.order_pair.specs.Word.{word_of}
use Rattle.order_pair.proofs.Overlap.{two, ends_level}

-- a number of two digits: the higher decides first
joined : (m x y u v : ℕ) (k : Ordering) → u < m → v < m → by_number (m * x + u) (m * y + v) k ≡ by_number x y (by_number u v k)
joined m x y u v k hu hv =
    case_order x y
    (λ h. is-less (m * x + u) (m * y + v) k (omega (arith, mul-le-mul_left m h)) ∙ sym (is-less x y (by_number u v k) h))
    (λ h.
    let e : m * x ≡ m * y = ap (λ (z : ℕ). m * z) h in
    case_order u v
    (λ l. is-less (m * x + u) (m * y + v) k (omega arith) ∙ sym (is_same x y (by_number u v k) h ∙ is-less u v k l))
    (λ l. is_same (m * x + u) (m * y + v) k (omega arith) ∙ sym (is_same x y (by_number u v k) h ∙ is_same u v k l))
    (λ l. is_greater (m * x + u) (m * y + v) k (omega arith) ∙ sym (is_same x y (by_number u v k) h ∙ is_greater u v k l)))
    (λ h. is_greater (m * x + u) (m * y + v) k (omega (arith, mul-le-mul_left m h)) ∙ sym (is_greater x y (by_number u v k) h))

be_at_lt : (l : List ℕ) (i k : ℕ) → i + k ≤ length l → Bytes l → be_at k l i < 256 ^ k
unfolding be_at
be_at_lt l i k f h = omega (arith, of_be_lt (part l i k) (bytes-part l i k h), ap (λ (m : ℕ). 256 ^ m) (length_part l i k f))

-- a number of one byte is the byte
pub be_at-one : (s : List ℕ) (i : ℕ) → i < length s → be_at 1 s i ≡ get_or s i 0
unfolding be_at of_be of_le
be_at-one s i h = ap of_be (part-one s i h) ∙ omega arith

-- the cases of the definition
module _ (t : List ℕ) (n : ℕ) (e : n ≡ length t) where
  pub word_4 : 4 ≤ n → word_of t ≡ 4294967296 * be_at 4 t 0 + be_at 4 t (n - 4)
  unfolding word_of
  word_4 h = simp (le-leb 4 (length t) (omega arith), e)

  pub word_2 : n < 4 → 2 ≤ n → word_of t ≡ 65536 * be_at 2 t 0 + be_at 2 t (n - 2)
  unfolding word_of
  word_2 l h = simp (lt-leb 4 (length t) (omega arith), le-leb 2 (length t) (omega arith), e)

  pub word_1 : n ≡ 1 → word_of t ≡ be_at 1 t 0
  unfolding word_of
  word_1 h = simp (lt-leb 4 (length t) (omega arith), lt-leb 2 (length t) (omega arith), eq-eqb (length t) 1 (omega arith))

  pub word_0 : n ≡ 0 → word_of t ≡ 0
  unfolding word_of
  word_0 h = simp (lt-leb 4 (length t) (omega arith), lt-leb 2 (length t) (omega arith), ne_eqb (length t) 1 (λ q. omega arith))

module _ (a b : List ℕ) (ha : Bytes a) (hb : Bytes b) (n : ℕ) (ea : n ≡ length a) (eb : n ≡ length b) where
  -- two words that cover a string
  covered : (w : ℕ) → w ≤ n → n ≤ w + w
      → cmp_bytes a b ≡ by_number (256 ^ w * be_at w a 0 + be_at w a (n - w)) (256 ^ w * be_at w b 0 + be_at w b (n - w)) Equal
  covered w h l =
      two a b ha hb w 0 (n - w) (omega arith) (omega arith) (omega arith) (omega arith)
      ∙ ap (λ (k : Ordering). by_number (be_at w a 0) (be_at w b 0) (by_number (be_at w a (n - w)) (be_at w b (n - w)) k)) (ends_level a b (n - w + w) (omega arith) (omega arith))
      ∙ sym (joined (256 ^ w) (be_at w a 0) (be_at w b 0) (be_at w a (n - w)) (be_at w b (n - w)) Equal (be_at_lt a (n - w) w (omega arith) ha) (be_at_lt b (n - w) w (omega arith) hb))

  -- fewer than eight bytes stand as their numbers
  pub by_word : n < 8 → cmp_bytes a b ≡ by_number (word_of a) (word_of b) Equal
  by_word h =
      elim (dec_le 4 n) [
        | yes p ↦ covered 4 p (omega arith) ∙ sym (ap₂ (λ (x y : ℕ). by_number x y Equal) (word_4 a n ea p) (word_4 b n eb p))
        | no p ↦ elim (dec_le 2 n) [
          | yes q ↦ covered 2 q (omega arith) ∙ sym (ap₂ (λ (x y : ℕ). by_number x y Equal) (word_2 a n ea (omega arith) q) (word_2 b n eb (omega arith) q))
          | no q ↦ elim (dec_le 1 n) [
            | yes r ↦ step a b ha hb 1 0 (omega arith) (omega arith)
                ∙ ap (λ (k : Ordering). by_number (be_at 1 a 0) (be_at 1 b 0) k) (ends_level a b 1 (omega arith) (omega arith))
                ∙ sym (ap₂ (λ (x y : ℕ). by_number x y Equal) (word_1 a n ea (omega arith)) (word_1 b n eb (omega arith)))
            | no r ↦ ends_level a b 0 (omega arith) (omega arith)
                ∙ sym (ap₂ (λ (x y : ℕ). by_number x y Equal) (word_0 a n ea (omega arith)) (word_0 b n eb (omega arith)))
          ]
        ]
      ]
