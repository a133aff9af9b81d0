-- The laws of `Lies`: taking apart what stands at an index, and keeping it while other places change.
-- Assumes nothing.
use mathlib.Core.Path.{◌≡◌, sym, ap, ap₂, ◌∙◌}
use mathlib.Core.List.{List, ◌∷◌, ◌++◌}
use Prim.Native.Nat.{ℕ, suc, ◌+◌, ◌≤◌, ◌<◌}
use native.Mathlib.Nat.{add-zero}
use native.Mathlib.Omega.{arith}
use lib.ListN.{length, get_or, take, drop, length-append, length-take, length-drop, take-append-drop}
use lib.Seq.{take-append_seam, drop-append_seam, take-add, drop-drop, take-take}
use Rattle.spans.specs.Span.{part, put, Lies}
use Rattle.spans.proofs.Part.{part_agree, part_add, length_part, get_d_part}
use Rattle.spans.proofs.Put.{part-put}

pub put_lies : (a : List ℕ) (at : ℕ) (x : List ℕ) → at + length x ≤ length a → Lies (put a at x) at x
unfolding Lies
put_lies a at x h = part-put a at x h

module _ (b : List ℕ) (at : ℕ) (x y : List ℕ) (h : Lies b at (x ++ y)) where
  pub lies_front : Lies b at x
  unfolding Lies part
  lies_front =
      sym (take-take (length x) (length (x ++ y)) (drop at b) (omega (arith, length-append x y)))
      ∙ ap (λ (l : List ℕ). take (length x) l) h ∙ take-append_seam x y

  pub lies_back : Lies b (at + length x) y
  unfolding Lies part
  lies_back =
      let e : x ++ take (length y) (drop (length x) (drop at b)) ≡ x ++ y =
      ap (λ (l : List ℕ). l ++ take (length y) (drop (length x) (drop at b))) (sym lies_front)
      ∙ sym (take-add (length x) (length y) (drop at b)) ∙ ap (λ (k : ℕ). take k (drop at b)) (sym (length-append x y)) ∙ h in
      ap (λ (l : List ℕ). take (length y) l) (sym (drop-drop (length x) at b))
      ∙ sym (drop-append_seam x (take (length y) (drop (length x) (drop at b)))) ∙ ap (λ (l : List ℕ). drop (length x) l) e ∙ drop-append_seam x y

pub lies_head : (b : List ℕ) (at k : ℕ) (y : List ℕ) → Lies b at (k ∷ y) → get_or b at 0 ≡ k
unfolding Lies
lies_head b at k y h =
    ap (λ (i : ℕ). get_or b i 0) (sym (add-zero at)) ∙ sym (get_d_part b at (suc (length y)) 0 0 (omega arith)) ∙ ap (λ (l : List ℕ). get_or l 0 0) h

-- the part of as many bytes as lie there
pub lies_part : (b : List ℕ) (at n : ℕ) (x : List ℕ) → n ≡ length x → Lies b at x → part b at n ≡ x
unfolding Lies
lies_part b at n x e h = ap (part b at) e ∙ h

-- a change at or above the end of x is no change of x
pub lies_kept : (b b' : List ℕ) (at n : ℕ) (x : List ℕ) → at + length x ≤ n → take n b' ≡ take n b → Lies b at x → Lies b' at x
unfolding Lies
lies_kept b b' at n x l e h = part_agree b' b at (length x) n l e ∙ h

-- ---- to and from what is left behind an index

pub lies_drop : (s : List ℕ) (at : ℕ) (x : List ℕ) → Lies s at x → drop at s ≡ x ++ drop (at + length x) s
unfolding Lies part
lies_drop s at x h =
    sym (take-append-drop (length x) (drop at s)) ∙ ap (λ (l : List ℕ). l ++ drop (length x) (drop at s)) h ∙ ap (λ (l : List ℕ). x ++ l) (drop-drop (length x) at s)

pub drop_lies : (s : List ℕ) (at : ℕ) (x r : List ℕ) → drop at s ≡ x ++ r → Lies s at x
unfolding Lies part
drop_lies s at x r e = ap (take (length x)) e ∙ take-append_seam x r

-- what lies somewhere lies inside
pub lies_in : (s : List ℕ) (at : ℕ) (x : List ℕ) → 0 < length x → Lies s at x → at + length x ≤ length s
unfolding Lies part
lies_in s at x p h = omega (arith, sym (length-take (length x) (drop at s)) ∙ ap length h, length-drop at s)

-- two stretches that touch
pub lies_append : (s : List ℕ) (at : ℕ) (x y : List ℕ) → Lies s at x → Lies s (at + length x) y → Lies s at (x ++ y)
unfolding Lies
lies_append s at x y h k =
    ap (part s at) (length-append x y) ∙ part_add s at (length x) (length y) ∙ ap₂ (λ (l r : List ℕ). l ++ r) h k

-- a part lies where it was taken
pub part_lies : (s : List ℕ) (i n : ℕ) → i + n ≤ length s → Lies s i (part s i n)
unfolding Lies
part_lies s i n h = ap (part s i) (length_part s i n h)
