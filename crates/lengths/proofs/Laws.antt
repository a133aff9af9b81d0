-- The laws of the lengths' encoding.
-- Assumes nothing.
use mathlib.Core.Path.{◌≡◌, refl, sym, ap, ap₂, ◌∙◌, subst}
use mathlib.Core.List.{List, [], ◌∷◌, ◌++◌}
use Prim.Native.Nat.{ℕ, zero, suc, ◌+◌, ◌*◌, ◌-◌, ◌/◌, ◌%◌, ◌^◌, ◌≤◌, ◌<◌}
use native.Mathlib.Nat.{pow-suc, pow-succ', pow-le-pow_right, mul-le-mul, mul-le-mul_left, lt_of_not-le}
use native.Mathlib.Numerals.{add-one}
use native.Mathlib.Decide.{dec_le}
use native.Mathlib.Omega.{arith}
use lib.Dec.{lit<}
use lib.ListN.{length, get_or, set, drop, drop_of_length-le}
use lib.Seq.{get_or-drop, drop-cons}
use borrow.Author.Tests.{lt-ltb, le-ltb, ne_eqb}
use Rattle.numbers.specs.Number.{Bytes}
use Rattle.spans.specs.Span.{put, Lies}
use Rattle.spans.proofs.Put.{put_cons, put_one}
use Rattle.spans.proofs.Lying.{lies_drop, drop_lies}
use Rattle.lengths.specs.Leb128.{enc, uleb, carry, dec, within, read_len}
use Rattle.std.proofs.Common.{Option, Some, None}

-- P1, P2
pub rows : (uleb 127 ≡ 0x7F ∷ []) × (uleb 128 ≡ 0x80 ∷ 0x01 ∷ []) × (uleb 12857 ≡ 0xB9 ∷ 0x64 ∷ []) × (read_len (0x80 ∷ 0x00 ∷ []) 0 ≡ None)
unfolding uleb read_len
rows = (refl, refl, refl, refl)

pow_128 : (k : ℕ) → 128 ^ suc k ≡ 128 * 128 ^ k
pow_128 k = pow-succ' 128 k

-- the equations of `enc`
pub enc-last : (k n : ℕ) → n < 128 → enc (suc k) n ≡ n ∷ []
unfolding enc
enc-last k n h = simp (lt-ltb n 128 h)

pub enc_more : (k n : ℕ) → 128 ≤ n → enc (suc k) n ≡ (n % 128 + 128) ∷ enc k (n / 128)
unfolding enc
enc_more k n h = simp (le-ltb n 128 h)

-- and of `dec`
pub dec-last : (k b : ℕ) (l : List ℕ) (here : ℕ) → b < 128 → dec (suc k) (b ∷ l) here ≡ Some (b, here + 1)
unfolding dec
dec-last k b l here h = simp (lt-ltb b 128 h)

pub dec_more : (k b : ℕ) (l : List ℕ) (here : ℕ) → 128 ≤ b → dec (suc k) (b ∷ l) here ≡ carry (b - 128) 128 (dec k l (here + 1))
unfolding dec
dec_more k b l here h = simp (le-ltb b 128 h)

pub dec_nil : (k here : ℕ) → dec k [] here ≡ None
unfolding dec
dec_nil zero here = refl
dec_nil (suc k) here = refl

pub carry_zero : (a p n : ℕ) → carry a p (Some (0, n)) ≡ None
unfolding carry
carry_zero a p n = refl

pub carry-is : (a p v n : ℕ) → 0 < v → carry a p (Some (v, n)) ≡ Some (a + p * v, n)
unfolding carry
carry-is a p v n h = simp (ne_eqb v 0 (λ e. omega arith))

-- two bytes carried are one
pub carry-carry : (a p c : ℕ) (r : Option (ℕ × ℕ)) → carry a p (carry c 128 r) ≡ carry (a + p * c) (p * 128) r
unfolding carry
carry-carry a p c None = refl
carry-carry a p c (Some (zero, n)) = refl
carry-carry a p c (Some (suc v, n)) =
    ap (carry a p) (carry-is c 128 (suc v) n (omega arith))
    ∙ carry-is a p (c + 128 * suc v) n (omega arith)
    ∙ ap (λ (x : ℕ). Some (x, n)) (omega arith)
    ∙ sym (carry-is (a + p * c) (p * 128) (suc v) n (omega arith))

pub by_order {ℓ} : {X : Type ℓ} (a b : ℕ) → (a < b → X) → (b ≤ a → X) → X
by_order a b f g = elim (dec_le b a) [ no p ↦ f (lt_of_not-le p) | yes p ↦ g p ]

-- ---- write, then read

dec-enc : (k n : ℕ) (rest : List ℕ) (here : ℕ) → n < 128 ^ suc k → dec (suc k) (enc (suc k) n ++ rest) here ≡ Some (n, here + length (enc (suc k) n))
dec-enc zero n rest here h = rw (enc-last 0 n h) (dec-last 0 n rest here h)
dec-enc (suc k) n rest here h =
    by_order n 128 (λ l. rw (enc-last (suc k) n l) (dec-last (suc k) n rest here l))
    (λ l.
    rw (enc_more (suc k) n l)
    (dec_more (suc k) (n % 128 + 128) (enc (suc k) (n / 128) ++ rest) here (omega arith)
    ∙ ap (carry (n % 128 + 128 - 128) 128) (dec-enc k (n / 128) rest (here + 1) (omega (arith, pow_128 (suc k))))
    ∙ carry-is (n % 128 + 128 - 128) 128 (n / 128) (here + 1 + length (enc (suc k) (n / 128))) (omega arith)
    ∙ ap₂ (λ x0 x1. Some (x0, x1)) (omega arith) (omega arith)))

-- any count of bytes that is large enough gives the same
enc-same : (j k n : ℕ) → n < 128 ^ suc j → n < 128 ^ suc k → enc (suc j) n ≡ enc (suc k) n
enc-same zero k n g h = enc-last 0 n g ∙ sym (enc-last k n g)
enc-same (suc j) zero n g h = enc-last (suc j) n h ∙ sym (enc-last 0 n h)
enc-same (suc j) (suc k) n g h =
    by_order n 128 (λ l. enc-last (suc j) n l ∙ sym (enc-last (suc k) n l))
    (λ l.
    enc_more (suc j) n l
    ∙ ap (λ (r : List ℕ). (n % 128 + 128) ∷ r) (enc-same j k (n / 128) (omega (arith, pow_128 (suc j))) (omega (arith, pow_128 (suc k))))
    ∙ sym (enc_more (suc k) n l))

-- the equations of `uleb`
pub uleb-last : (n : ℕ) → n < 128 → uleb n ≡ n ∷ []
unfolding uleb
uleb-last n h = enc-last 4 n h

pub uleb_more : (n : ℕ) → 128 ≤ n → n < 4294967296 → uleb n ≡ (n % 128 + 128) ∷ uleb (n / 128)
unfolding uleb
uleb_more n h l = enc_more 4 n h ∙ ap (λ (r : List ℕ). (n % 128 + 128) ∷ r) (enc-same 3 4 (n / 128) (omega arith) (omega arith))

pub within-is : (v n : ℕ) → v < 4294967296 → within (Some (v, n)) ≡ Some (v, n)
unfolding within
within-is v n h = simp (lt-ltb v 4294967296 h)

pub within-above : (v n : ℕ) → 4294967296 ≤ v → within (Some (v, n)) ≡ None
unfolding within
within-above v n h = simp (le-ltb v 4294967296 h)

pub read-uleb : (s : List ℕ) (at v : ℕ) (rest : List ℕ) → v < 4294967296 → drop at s ≡ uleb v ++ rest → read_len s at ≡ Some (v, at + length (uleb v))
unfolding read_len uleb
read-uleb s at v rest h e =
    ap (λ (l : List ℕ). within (dec 5 l at)) e ∙ ap within (dec-enc 4 v rest at (omega arith)) ∙ within-is v (at + length (uleb v)) h

-- ---- read, then write

-- l begins with the shortest form of v, in at most k bytes, and n is the index behind it
abbrev Found : ℕ → List ℕ → ℕ → ℕ → ℕ → Type 0
Found k l here v n = (rest : List ℕ) × (l ≡ enc k v ++ rest) × (n ≡ here + length (enc k v)) × (v < 128 ^ k)

pow_128_pos : (k : ℕ) → 0 < 128 ^ k
pow_128_pos zero = lit< tt
pow_128_pos (suc k) = omega (arith, pow_128 k, pow_128_pos k)

never : {X : Type 0} (v n : ℕ) → ◌≡◌ {A = Option (ℕ × ℕ)} None (Some (v, n)) → X
never v n e = let z : ◌≡◌ {A = ℕ} 0 1 = cc in absurd (omega arith)

enc_step : (k b : ℕ) (l : List ℕ) (here v n : ℕ) → 128 ≤ b → b < 256 → (r : Option (ℕ × ℕ)) → dec k l (here + 1) ≡ r → carry (b - 128) 128 r ≡ Some (v, n)
    → ((w m : ℕ) → dec k l (here + 1) ≡ Some (w, m) → Found k l (here + 1) w m) → Found (suc k) (b ∷ l) here v n
unfolding carry
enc_step k b l here v n hb hc None q e ih = never v n e
enc_step k b l here v n hb hc (Some (zero, m)) q e ih = never v n e
enc_step k b l here v n hb hc (Some (suc w, m)) q e ih =
    let f = ih (suc w) m q in
    let d : ◌≡◌ {A = Option (ℕ × ℕ)} (Some (b - 128 + 128 * suc w, m)) (Some (v, n)) = sym (carry-is (b - 128) 128 (suc w) m (omega arith)) ∙ e in
    let ve : b - 128 + 128 * suc w ≡ v = grind arith in
    let ne : m ≡ n = grind arith in
    let lo : v % 128 + 128 ≡ b = omega arith in
    let hi : v / 128 ≡ suc w = omega arith in
    let E : enc (suc k) v ≡ b ∷ enc k (suc w) = enc_more k v (omega arith) ∙ ap₂ (λ (x y : ℕ). x ∷ enc k y) lo hi in
    (f.0, ap (λ (r : List ℕ). b ∷ r) f.1 ∙ ap (λ (r : List ℕ). r ++ f.0) (sym E), omega (arith, ap length E, f.2), omega (arith, f.3, pow_128 k))

enc-dec : (k : ℕ) (l : List ℕ) (here v n : ℕ) → Bytes l → dec k l here ≡ Some (v, n) → Found k l here v n
unfolding dec
enc-dec zero l here v n hb e = never v n e
enc-dec (suc k) [] here v n hb e = never v n e
enc-dec (suc k) (b ∷ l) here v n hb e =
    by_order b 128
    (λ h.
    let d : ◌≡◌ {A = Option (ℕ × ℕ)} (Some (b, here + 1)) (Some (v, n)) = sym (dec-last k b l here h) ∙ e in
    let ve : b ≡ v = grind arith in
    let ne : here + 1 ≡ n = grind arith in
    let E : enc (suc k) v ≡ v ∷ [] = enc-last k v (omega arith) in
    (l, ap (λ (x : ℕ). x ∷ l) ve ∙ ap (λ (r : List ℕ). r ++ l) (sym E), omega (arith, ap length E), omega (arith, pow_128 k, pow_128_pos k)))
    (λ h. enc_step k b l here v n h (hb 0) (dec k l (here + 1)) refl (sym (dec_more k b l here h) ∙ e) (λ w m q. enc-dec k l (here + 1) w m (λ i. hb (suc i)) q))

within_inv : (r : Option (ℕ × ℕ)) (v n : ℕ) → within r ≡ Some (v, n) → (r ≡ Some (v, n)) × (v < 4294967296)
unfolding within
within_inv None v n e = never v n e
within_inv (Some (w, m)) v n e =
    by_order w 4294967296
    (λ h.
    let d : ◌≡◌ {A = Option (ℕ × ℕ)} (Some (w, m)) (Some (v, n)) = sym (within-is w m h) ∙ e in
    let ve : w ≡ v = grind arith in
    (d, omega arith))
    (λ h. never v n (sym (within-above w m h) ∙ e))

-- what the reader takes is the shortest form of its value, and nothing else
pub uleb-read : (s : List ℕ) (at v n : ℕ) → Bytes s → read_len s at ≡ Some (v, n)
    → (rest : List ℕ) × (drop at s ≡ uleb v ++ rest) × (n ≡ at + length (uleb v)) × (v < 4294967296)
unfolding read_len uleb
uleb-read s at v n hb e =
    let w = within_inv (dec 5 (drop at s) at) v n e in
    let f = enc-dec 5 (drop at s) at v n (λ i. subst (λ (x : ℕ). x < 256) (sym (get_or-drop at s i 0)) (hb (at + i))) w.0 in
    (f.0, f.1, f.2, w.1)

-- so no two numbers share an encoding, whatever follows it
pub uleb_unique : (v w : ℕ) (r q : List ℕ) → v < 4294967296 → w < 4294967296 → uleb v ++ r ≡ uleb w ++ q → v ≡ w
uleb_unique v w r q hv hw e =
    let a = read-uleb (uleb v ++ r) 0 v r hv refl in
    let b = read-uleb (uleb v ++ r) 0 w q hw e in
    grind arith

-- ---- the reader's steps: what stands at index here of s

pub dec-end : (s : List ℕ) (here k : ℕ) → length s ≤ here → dec k (drop here s) here ≡ None
dec-end s here k h = ap (λ (l : List ℕ). dec k l here) (drop_of_length-le s h) ∙ dec_nil k here

pub dec-at-last : (s : List ℕ) (here k : ℕ) → here < length s → 0 < k → get_or s here 0 < 128 → dec k (drop here s) here ≡ Some (get_or s here 0, here + 1)
dec-at-last s here zero h z l = absurd (omega arith)
dec-at-last s here (suc k) h z l = ap (λ (r : List ℕ). dec (suc k) r here) (drop-cons s here 0 h) ∙ dec-last k (get_or s here 0) (drop (suc here) s) here l

pub dec-at_more : (s : List ℕ) (here k : ℕ) → here < length s → 0 < k → 128 ≤ get_or s here 0
    → dec k (drop here s) here ≡ carry (get_or s here 0 - 128) 128 (dec (k - 1) (drop (here + 1) s) (here + 1))
dec-at_more s here zero h z l = absurd (omega arith)
dec-at_more s here (suc k) h z l =
    let e : k ≡ suc k - 1 = omega arith in
    ap (λ (r : List ℕ). dec (suc k) r here) (drop-cons s here 0 h)
    ∙ dec_more k (get_or s here 0) (drop (suc here) s) here l
    ∙ ap₂ (λ (i j : ℕ). carry (get_or s here 0 - 128) 128 (dec i (drop j s) (here + 1))) e (sym (add-one here))

pub read-end : (s : List ℕ) (at : ℕ) → length s ≤ at → read_len s at ≡ None
unfolding read_len within
read-end s at h = ap within (dec-end s at 5 h)

pub read_one : (s : List ℕ) (at : ℕ) → at < length s → get_or s at 0 < 128 → read_len s at ≡ Some (get_or s at 0, at + 1)
unfolding read_len
read_one s at h l = ap within (dec-at-last s at 5 h (lit< tt) l) ∙ within-is (get_or s at 0) (at + 1) (omega arith)

pub read_first : (s : List ℕ) (at : ℕ) → at < length s → 128 ≤ get_or s at 0
    → read_len s at ≡ within (carry (get_or s at 0 - 128) 128 (dec 4 (drop (at + 1) s) (at + 1)))
unfolding read_len
read_first s at h l = ap within (dec-at_more s at 5 h (lit< tt) l)

-- so far v was read, p is the weight of the next byte, which is at index here, and k bytes are left
module _ (s : List ℕ) (at v p k here : ℕ) (e : read_len s at ≡ within (carry v p (dec k (drop here s) here))) where
  pub step_end : length s ≤ here → read_len s at ≡ None
  unfolding within carry
  step_end h = e ∙ ap (λ (r : Option (ℕ × ℕ)). within (carry v p r)) (dec-end s here k h)

  pub step_none : k ≤ 0 → read_len s at ≡ None
  unfolding within carry dec
  step_none h =
      let z : k ≡ 0 = omega arith in
      e ∙ ap (λ (i : ℕ). within (carry v p (dec i (drop here s) here))) z

  last : here < length s → 0 < k → get_or s here 0 < 128 → read_len s at ≡ within (carry v p (Some (get_or s here 0, here + 1)))
  last h z l = e ∙ ap (λ (r : Option (ℕ × ℕ)). within (carry v p r)) (dec-at-last s here k h z l)

  pub step_zero : here < length s → 0 < k → get_or s here 0 ≡ 0 → read_len s at ≡ None
  unfolding within carry
  step_zero h z l = last h z (omega arith) ∙ ap (λ (b : ℕ). within (carry v p (Some (b, here + 1)))) l

  whole : here < length s → 0 < k → get_or s here 0 < 128 → 0 < get_or s here 0 → read_len s at ≡ within (Some (v + p * get_or s here 0, here + 1))
  whole h z l m = last h z l ∙ ap within (carry-is v p (get_or s here 0) (here + 1) m)

  pub step_last : here < length s → 0 < k → get_or s here 0 < 128 → 0 < get_or s here 0 → v + p * get_or s here 0 < 4294967296 → read_len s at ≡ Some (v + p * get_or s here 0, here + 1)
  step_last h z l m w = whole h z l m ∙ within-is (v + p * get_or s here 0) (here + 1) w

  pub step_above : here < length s → 0 < k → get_or s here 0 < 128 → 0 < get_or s here 0 → 4294967296 ≤ v + p * get_or s here 0 → read_len s at ≡ None
  step_above h z l m w = whole h z l m ∙ within-above (v + p * get_or s here 0) (here + 1) w

  pub step_more : here < length s → 0 < k → 128 ≤ get_or s here 0
      → read_len s at ≡ within (carry (v + p * (get_or s here 0 - 128)) (p * 128) (dec (k - 1) (drop (here + 1) s) (here + 1)))
  step_more h z l =
      e
      ∙ ap (λ (r : Option (ℕ × ℕ)). within (carry v p r)) (dec-at_more s here k h z l)
      ∙ ap within (carry-carry v p (get_or s here 0 - 128) (dec (k - 1) (drop (here + 1) s) (here + 1)))

-- the weight of the next byte, where k bytes are left
pub weight : ℕ → ℕ
weight k = 128 ^ (5 - k)

pub weight_four : weight 4 ≡ 128
unfolding weight
weight_four = refl

pub weight_step : (k : ℕ) → 0 < k → k ≤ 5 → weight k * 128 ≡ weight (k - 1)
unfolding weight
weight_step k z h =
    let e : suc (5 - k) ≡ 5 - (k - 1) = omega arith in
    sym (pow-suc 128 (5 - k)) ∙ ap (λ (i : ℕ). 128 ^ i) e

pub weight_le : (k : ℕ) → weight k ≤ 34359738368
unfolding weight
weight_le k = pow-le-pow_right (lit< tt) {i = 5 - k} {j = 5} (omega arith)

pub product_le : (p b : ℕ) → p ≤ 34359738368 → b ≤ 255 → p * b ≤ 8761733283840
product_le p b h l = mul-le-mul h l

pub below_next : (v p c : ℕ) → v < p → c < 128 → v + p * c < p * 128
below_next v p c h l = omega (arith, mul-le-mul_left p l)

-- ---- the writer's steps: storing what is still to come gives the whole

pub put_more : (a : List ℕ) (i n : ℕ) → 128 ≤ n → n < 4294967296
    → (put (set a i (n % 128 + 128)) (i + 1) (uleb (n / 128)) ≡ put a i (uleb n)) × (i + 1 + length (uleb (n / 128)) ≡ i + length (uleb n))
put_more a i n h l =
    let e = uleb_more n h l in
    let g = ap length e in
    (sym (ap (put a i) e ∙ put_cons a i (n % 128 + 128) (uleb (n / 128))), omega arith)

pub put_last : (a : List ℕ) (i n : ℕ) → n < 128 → (set a i n ≡ put a i (uleb n)) × (i + 1 ≡ i + length (uleb n))
put_last a i n h =
    let e = uleb-last n h in
    let g = ap length e in
    (sym (ap (put a i) e ∙ put_one a i n), omega arith)

-- the size
pub size_more : (n : ℕ) → 128 ≤ n → n < 4294967296 → length (uleb n) ≡ suc (length (uleb (n / 128)))
size_more n h l = ap length (uleb_more n h l)

pub size-last : (n : ℕ) → n < 128 → length (uleb n) ≡ 1
size-last n h = ap length (uleb-last n h)

-- at most five bytes
enc-few : (k n : ℕ) → length (enc k n) ≤ k
unfolding enc
enc-few zero n = omega arith
enc-few (suc k) n =
    by_order n 128 (λ h. omega (arith, ap length (enc-last k n h))) (λ h. omega (arith, ap length (enc_more k n h), enc-few k (n / 128)))

pub uleb-few : (n : ℕ) → length (uleb n) ≤ 5
unfolding uleb
uleb-few n = enc-few 5 n

-- ---- a length that lies at an index, both directions

pub read_lies : (s : List ℕ) (at v : ℕ) → v < 4294967296 → Lies s at (uleb v) → read_len s at ≡ Some (v, at + length (uleb v))
read_lies s at v h e = read-uleb s at v (drop (at + length (uleb v)) s) h (lies_drop s at (uleb v) e)

pub lies_read : (s : List ℕ) (at v n : ℕ) → Bytes s → read_len s at ≡ Some (v, n) → Lies s at (uleb v) × (n ≡ at + length (uleb v)) × (v < 4294967296)
lies_read s at v n hb e =
    let f = uleb-read s at v n hb e in
    (drop_lies s at (uleb v) f.0 f.1, f.2, f.3)

pub uleb-some : (n : ℕ) → n < 4294967296 → 0 < length (uleb n)
uleb-some n l = by_order n 128 (λ h. omega (arith, size-last n h)) (λ h. omega (arith, size_more n h l))
