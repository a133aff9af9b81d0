-- Laws of the words: what is left in a slice after its stores, how an answer's words become the call's, and that a walk handed back as
-- words is the walk.
-- Assumes nothing.
use Prim.Native.Nat.{ℕ, ◌+◌, ◌≤◌}
use mathlib.Core.Path.{◌≡◌, refl, sym, ap, ◌∙◌}
use mathlib.Core.List.{List, [], ◌∷◌, ◌++◌, append-nil}
use native.Mathlib.Omega.{arith}
use native.Mathlib.Nat.{zero-add}
use lib.ListN.{length, take, drop, set, take-append-drop}
use lib.Seq.{set_out, drop-length, length-take-le}
use Rattle.spans.specs.Span.{put}
use Rattle.spans.proofs.Put.{put_nil, put_cut, put-append, length-put}
use Rattle.walks.specs.declared.Walk.{Walk}
use Rattle.c_words.specs.Words.{written, walk_words, walk_in}

-- ---- a store behind the end does nothing

pub put_out : (o : List ℕ) (k : ℕ) (ws : List ℕ) → length o ≤ k → put o k ws ≡ o
unfolding put
put_out o k [] h = refl
put_out o k (w ∷ ws) h = ap (λ (z : List ℕ). put z (k + 1) ws) (set_out o k w h) ∙ put_out o (k + 1) ws (omega arith)

-- three stores in a row
pub put_three : (o : List ℕ) (k a b c : ℕ) → put o k (a ∷ b ∷ c ∷ []) ≡ set (set (set o k a) (k + 1) b) (k + 2) c
unfolding put
put_three o k a b c = let e : k + 1 + 1 ≡ k + 2 = omega arith in ap (λ (j : ℕ). set (set (set o k a) (k + 1) b) j c) e

-- ---- what `written` says, in the header's words

-- a refusal has no words, and changes none
pub written_none : (out : List ℕ) → written [] out ≡ out
unfolding written
written_none out = put_nil out 0

pub written-length : (ws out : List ℕ) → length (written ws out) ≡ length out
unfolding written
written-length ws out = length-put out 0 ws

-- "words behind the answer stay as they are"
pub written-whole : (ws out : List ℕ) → length ws ≤ length out → written ws out ≡ ws ++ drop (length ws) out
unfolding written
written-whole ws out h = put_cut out 0 ws (omega (arith, h)) ∙ ap (λ (k : ℕ). ws ++ drop k out) (zero-add (length ws))

-- "A slice with fewer words takes the first ones only"
pub written-short : (ws out : List ℕ) → length out ≤ length ws → written ws out ≡ take (length out) ws
unfolding written
written-short ws out h =
    let n = length out in
    let e : length (take n ws) ≡ n = length-take-le n ws h in
    ap (λ (z : List ℕ). put out 0 z) (sym (take-append-drop n ws))
    ∙ put-append out 0 (take n ws) (drop n ws)
    ∙ put_out (put out 0 (take n ws)) (0 + length (take n ws)) (drop n ws) (omega (arith, length-put out 0 (take n ws), e))
    ∙ written-whole (take n ws) out (omega (arith, e))
    ∙ ap (λ (k : ℕ). take n ws ++ drop k out) e
    ∙ ap (λ (z : List ℕ). take n ws ++ z) (drop-length out)
    ∙ append-nil (take n ws)

-- ---- an answer's number and words are the call's, once the answer is known

module _ {A : Type 0} (number : A → ℕ) (words : A → List ℕ) (out : List ℕ) {x y : A} {r : ℕ} {o : List ℕ} (e : x ≡ y) where
  pub told : (r ≡ number x) × (o ≡ written (words x) out) → (r ≡ number y) × (o ≡ written (words y) out)
  told h = (h.0 ∙ ap number e, h.1 ∙ ap (λ (z : A). written (words z) out) e)

-- the same where a walk is written, too
module _ {A : Type 0} (number : A → ℕ) (moved words : A → List ℕ) (walk out : List ℕ) {x y : A} {r : ℕ} {w o : List ℕ} (e : x ≡ y) where
  pub told_moved : (r ≡ number x) × ((w ≡ written (moved x) walk) × (o ≡ written (words x) out))
      → (r ≡ number y) × ((w ≡ written (moved y) walk) × (o ≡ written (words y) out))
  told_moved h = (h.0 ∙ ap number e, (h.1.0 ∙ ap (λ (z : A). written (moved z) walk) e, h.1.1 ∙ ap (λ (z : A). written (words z) out) e))

-- ---- walks

-- the words of a walk say the walk
pub walk_back : (w : Walk) (rest : List ℕ) → walk_in (walk_words w ++ rest) ≡ w
unfolding walk_in
walk_back w rest = refl

-- a walk written to at least eighteen words is the walk that the next step reads
pub walk_kept : (w : Walk) (out : List ℕ) → 18 ≤ length out → walk_in (written (walk_words w) out) ≡ w
walk_kept w out h = ap walk_in (written-whole (walk_words w) out h) ∙ walk_back w (drop 18 out)
