-- The laws of `put`: lengths, stretches that touch, what lies below and above, what is written to a part of a slice, and the turn of a loop that stores.
-- Assumes nothing.
use mathlib.Core.Path.{◌≡◌, refl, sym, ap, ap₂, ◌∙◌}
use mathlib.Core.List.{List, [], ◌∷◌, ◌++◌, append_assoc}
use mathlib.Core.Bool.{Bool, true, false}
use Prim.Native.Nat.{ℕ, ◌+◌, ◌≤◌, ◌<◌}
use native.Mathlib.Nat.{add-zero}
use native.Mathlib.Numerals.{add-one}
use native.Mathlib.Omega.{arith}
use lib.ListN.{length, take, drop, get_or, set, length-set, drop_of_length-le}
use borrow.Author.Tests.{le-leb, lt-leb}
use borrow.Rule.Slice.PartMut.{put_mid}
use lib.Seq.{sets, drop-drop, sets-eq, take-set-le, drop-cons, take-append_seam, drop_at, length-take-le, get_or-set_other}
use Rattle.spans.specs.Span.{part, put, put_if, count_if, Stored}
use Rattle.spans.proofs.Part.{part_agree}

pub put_nil : (a : List ℕ) (i : ℕ) → put a i [] ≡ a
unfolding put
put_nil a i = refl

pub put_cons : (a : List ℕ) (i b : ℕ) (x : List ℕ) → put a i (b ∷ x) ≡ put (set a i b) (i + 1) x
unfolding put
put_cons a i b x = refl

-- one store
pub put_one : (a : List ℕ) (i b : ℕ) → put a i (b ∷ []) ≡ set a i b
unfolding put
put_one a i b = refl

pub length-put : (a : List ℕ) (i : ℕ) (x : List ℕ) → length (put a i x) ≡ length a
unfolding put
length-put a i [] = refl
length-put a i (b ∷ x) = length-put (set a i b) (i + 1) x ∙ length-set a i b

-- two stretches that touch are one
pub put-append : (a : List ℕ) (i : ℕ) (x y : List ℕ) → put a i (x ++ y) ≡ put (put a i x) (i + length x) y
unfolding put
put-append a i [] y = rw add-zero
put-append a i (b ∷ x) y =
    put-append (set a i b) (i + 1) x y
    ∙ ap (λ (k : ℕ). put (put (set a i b) (i + 1) x) k y) (omega arith)

-- the same, where the second place is known by an equation
pub put_next : (a : List ℕ) (i : ℕ) (x y : List ℕ) (j : ℕ) → j ≡ i + length x → put (put a i x) j y ≡ put a i (x ++ y)
put_next a i x y j e = ap (λ (k : ℕ). put (put a i x) k y) e ∙ sym (put-append a i x y)

-- what lies below stays
pub take_put : (n : ℕ) (a : List ℕ) (i : ℕ) (x : List ℕ) → n ≤ i → take n (put a i x) ≡ take n a
unfolding put
take_put n a i [] h = refl
take_put n a i (b ∷ x) h = take_put n (set a i b) (i + 1) x (omega arith) ∙ take-set-le n a i b h

pub part-put-below : (a : List ℕ) (i : ℕ) (x : List ℕ) (j n : ℕ) → j + n ≤ i → part (put a i x) j n ≡ part a j n
part-put-below a i x j n h = part_agree (put a i x) a j n i h (take_put i a i x (omega arith))

-- and what lies above
pub get_d_put-above : (a : List ℕ) (i : ℕ) (x : List ℕ) (k d : ℕ) → i + length x ≤ k → get_or (put a i x) k d ≡ get_or a k d
unfolding put
get_d_put-above a i [] k d h = refl
get_d_put-above a i (b ∷ x) k d h =
    get_d_put-above (set a i b) (i + 1) x k d (omega arith) ∙ get_or-set_other a i k b d (λ e. omega arith)

-- the same by cutting: what is before, the bytes, what is after
pub put_sets : (a : List ℕ) (i : ℕ) (x : List ℕ) → put a i x ≡ sets a i x
unfolding put
put_sets a i [] = refl
put_sets a i (b ∷ x) = put_sets (set a i b) (i + 1) x ∙ ap (λ (k : ℕ). sets (set a i b) k x) (add-one i)

pub put_cut : (a : List ℕ) (i : ℕ) (x : List ℕ) → i + length x ≤ length a → put a i x ≡ take i a ++ x ++ drop (i + length x) a
put_cut a i x h = put_sets a i x ∙ sets-eq x a i h

-- what is written to a part of a slice is stored there
pub put_mid-put : (a : List ℕ) (i k : ℕ) (x : List ℕ) → k ≡ length x → i + k ≤ length a → put_mid i k a x ≡ put a i x
put_mid-put a i k x e h =
    sym (put_cut a i x (omega arith) ∙ append_assoc (take i a) x (drop (i + length x) a) ∙ ap (λ (r : List ℕ). take i a ++ (x ++ r)) (ap (λ (n : ℕ). drop (i + n) a) (sym e) ∙ sym (drop-drop k i a)))

-- what was stored is read back
pub part-put : (a : List ℕ) (i : ℕ) (x : List ℕ) → i + length x ≤ length a → part (put a i x) i (length x) ≡ x
unfolding part
part-put a i x h =
    rw put_cut
    (ap (λ (l : List ℕ). take (length x) (drop i l)) (append_assoc (take i a) x (drop (i + length x) a))
    ∙ ap (λ (l : List ℕ). take (length x) l) (drop_at (take i a) (x ++ drop (i + length x) a) i (length-take-le i a (omega arith)))
    ∙ take-append_seam x (drop (i + length x) a))

-- ---- a loop that stores s from i on, a byte a turn: storing what is still to come gives the whole

pub put_turn : (a : List ℕ) (i : ℕ) (s : List ℕ) (j v : ℕ) → j < length s → get_or s j 0 ≡ v
    → put (set a (i + j) v) (i + (j + 1)) (drop (j + 1) s) ≡ put a (i + j) (drop j s)
put_turn a i s j v h e =
    let k : i + j + 1 ≡ i + (j + 1) = omega arith in
    sym
    (ap (put a (i + j)) (drop-cons s j 0 h ∙ ap₂ (λ (x n : ℕ). x ∷ drop n s) e (sym (add-one j)))
    ∙ put_cons a (i + j) v (drop (j + 1) s)
    ∙ ap (λ (n : ℕ). put (set a (i + j) v) n (drop (j + 1) s)) k)

pub put_begin : (a : List ℕ) (i : ℕ) (s : List ℕ) → put a (i + 0) (drop 0 s) ≡ put a i s
put_begin a i s = ap (λ (n : ℕ). put a n s) (add-zero i)

pub put-end : (a : List ℕ) (i : ℕ) (s : List ℕ) (j : ℕ) → length s ≤ j → put a i (drop j s) ≡ a
put-end a i s j h = ap (put a i) (drop_of_length-le s h) ∙ put_nil a i

-- ---- a store that takes any index

module _ (ok : Bool) (a : List ℕ) (i : ℕ) (x : List ℕ) where
  -- what may not be stored, and what does not fit
  pub stored_not : ok ≡ false → Stored ok a i x 0 a
  stored_not e = record { count = rw e refl; bytes = rw e refl }

  pub stored_none : ok ≡ true → length a < i + length x → Stored ok a i x 0 a
  unfolding put_if count_if
  stored_none e h =
      record {
        count = rw (e, lt-leb (i + length x) (length a) h) refl;
        bytes = rw (e, lt-leb (i + length x) (length a) h) refl;
      }

  pub stored-room : (r : ℕ) (a' : List ℕ) → ok ≡ true → i + length x ≤ length a → r ≡ length x → a' ≡ put a i x → Stored ok a i x r a'
  unfolding put_if count_if
  stored-room r a' e h p q =
      record {
        count = p ∙ rw (e, le-leb (i + length x) (length a) h) refl;
        bytes = q ∙ rw (e, le-leb (i + length x) (length a) h) refl;
      }

  -- what a caller with room learns
  module _ (r : ℕ) (a' : List ℕ) (w : Stored ok a i x r a') (e : ok ≡ true) (h : i + length x ≤ length a) where
    pub stored-count : r ≡ length x
    unfolding count_if
    stored-count = w.count ∙ rw (e, le-leb (i + length x) (length a) h) refl

    pub stored_bytes : a' ≡ put a i x
    unfolding put_if
    stored_bytes = w.bytes ∙ rw (e, le-leb (i + length x) (length a) h) refl

-- two stores one behind the other, as a function's calls leave them
pub put_chain : (a : List ℕ) (i : ℕ) {a₁ a₂ : List ℕ} {j : ℕ} (x y : List ℕ) → a₁ ≡ put a i x → a₂ ≡ put a₁ j y → j ≡ i + length x → a₂ ≡ put a i (x ++ y)
put_chain a i {a₁} {a₂} {j} x y p q e = q ∙ ap (λ (b : List ℕ). put b j y) p ∙ put_next a i x y j e

-- no second answer fits
pub stored_decided : {ok : Bool} {a : List ℕ} {i : ℕ} {x : List ℕ} (r r' : ℕ) (b b' : List ℕ) → Stored ok a i x r b → Stored ok a i x r' b' → (r ≡ r') × (b ≡ b')
stored_decided r r' b b' h k = (h.count ∙ sym k.count, h.bytes ∙ sym k.bytes)
