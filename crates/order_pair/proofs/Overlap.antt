-- Bytes that are known to be the same may be read again: a common front, and two words that overlap.
-- Assumes nothing.
use mathlib.Core.Path.{◌≡◌, sym, ap, ap₂, ◌∙◌}
use mathlib.Core.List.{List, ◌++◌}
use mathlib.Core.Logic.{inl}
use Prim.Native.Nat.{ℕ, ◌+◌, ◌-◌, ◌≤◌}
use native.Mathlib.Omega.{arith}
use lib.ListN.{length, take, drop, take-append-drop}
use lib.Seq.{take-take, take-add, drop-drop}
use Rattle.spans.specs.Span.{part}
use Rattle.spans.proofs.Part.{length_part}
use Rattle.numbers.specs.Number.{Bytes, le_at, be_at}
use Rattle.numbers.proofs.Numbers.{of_be_inj, of_le_inj, bytes-part}
use Rattle.std.specs.declared.cmp.Ordering.TheVariants.{Equal}
use Rattle.order.specs.Order.{by_number, cmp_bytes}
use Rattle.order.proofs.Laws.{case_order, is-less, is_greater, is_same, cmp_front}
use Rattle.order.proofs.Words.{step, ends}

front : (a : List ℕ) (i w : ℕ) → drop i a ≡ part a i w ++ drop (i + w) a
unfolding part
front a i w = sym (take-append-drop w (drop i a)) ∙ ap (λ (r : List ℕ). take w (drop i a) ++ r) (drop-drop w i a)

-- strings of one length are equal where both end
pub ends_level : (a b : List ℕ) (k : ℕ) → k ≡ length a → length a ≡ length b → cmp_bytes (drop k a) (drop k b) ≡ Equal
ends_level a b k h e = ends a b k (omega arith) (omega arith) (inl (omega arith)) ∙ is_same (length a) (length b) Equal e

-- behind a common front
pub behind : (a b : List ℕ) (p : ℕ) → take p a ≡ take p b → cmp_bytes a b ≡ cmp_bytes (drop p a) (drop p b)
behind a b p e =
    ap₂ cmp_bytes (sym (take-append-drop p a)) (sym (take-append-drop p b))
    ∙ ap (λ (x : List ℕ). cmp_bytes (x ++ drop p a) (take p b ++ drop p b)) e
    ∙ cmp_front (take p b) (drop p a) (drop p b)

-- any piece of it is one
pub nearer : (a b : List ℕ) (r p : ℕ) → p ≤ r → take r a ≡ take r b → take p a ≡ take p b
nearer a b r p h e = sym (take-take p r a h) ∙ ap (take p) e ∙ take-take p r b h

module _ (a b : List ℕ) (ha : Bytes a) (hb : Bytes b) where
  -- equal words, read in either order, lengthen it
  pub further : (w i : ℕ) → i + w ≤ length a → i + w ≤ length b → take i a ≡ take i b → le_at w a i ≡ le_at w b i → take (i + w) a ≡ take (i + w) b
  unfolding le_at part
  further w i p q e h =
      take-add i w a
      ∙ ap₂ (λ (x y : List ℕ). x ++ y) e (of_le_inj (part a i w) (part b i w) (length_part a i w p ∙ sym (length_part b i w q)) (bytes-part a i w ha) (bytes-part b i w hb) h)
      ∙ sym (take-add i w b)

  module _ (w p q : ℕ) (r : p ≤ q) (j : q ≤ p + w) (m : q + w ≤ length a) (n : q + w ≤ length b) where
    overlap : be_at w a p ≡ be_at w b p → cmp_bytes (drop p a) (drop p b) ≡ cmp_bytes (drop q a) (drop q b)
    unfolding be_at part
    overlap e =
        let k : p + (q - p) ≡ q = omega arith in
        let u : part a p w ≡ part b p w = of_be_inj (part a p w) (part b p w) (length_part a p w (omega arith) ∙ sym (length_part b p w (omega arith))) (bytes-part a p w ha) (bytes-part b p w hb) e in
        let f : part a p (q - p) ≡ part b p (q - p) = sym (take-take (q - p) w (drop p a) (omega arith)) ∙ ap (take (q - p)) u ∙ take-take (q - p) w (drop p b) (omega arith) in
        ap₂ cmp_bytes (front a p (q - p)) (front b p (q - p))
        ∙ ap (λ (x : List ℕ). cmp_bytes (x ++ drop (p + (q - p)) a) (part b p (q - p) ++ drop (p + (q - p)) b)) f
        ∙ cmp_front (part b p (q - p)) (drop (p + (q - p)) a) (drop (p + (q - p)) b)
        ∙ ap (λ (z : ℕ). cmp_bytes (drop z a) (drop z b)) k

    -- two words of one width decide, then what follows
    pub two : cmp_bytes (drop p a) (drop p b) ≡ by_number (be_at w a p) (be_at w b p) (by_number (be_at w a q) (be_at w b q) (cmp_bytes (drop (q + w) a) (drop (q + w) b)))
    two =
        let s : cmp_bytes (drop p a) (drop p b) ≡ by_number (be_at w a p) (be_at w b p) (cmp_bytes (drop (p + w) a) (drop (p + w) b)) = step a b ha hb w p (omega arith) (omega arith) in
        case_order (be_at w a p) (be_at w b p)
        (λ h. s ∙ is-less _ _ _ h ∙ sym (is-less (be_at w a p) (be_at w b p) _ h))
        (λ h. overlap h ∙ step a b ha hb w q m n ∙ sym (is_same (be_at w a p) (be_at w b p) _ h))
        (λ h. s ∙ is_greater _ _ _ h ∙ sym (is_greater (be_at w a p) (be_at w b p) _ h))
