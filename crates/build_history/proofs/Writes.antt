-- Stores of a pass in the words of its calls: a piece of known length, a number, a part of the source. `Writing` is of `spans`.
-- Assumes nothing.
use mathlib.Core.Path.{◌≡◌, refl, sym, ap, ◌∙◌}
use mathlib.Core.List.{List, [], ◌∷◌, ◌++◌}
use mathlib.Core.Bool.{Bool, true, false, cond}
use Prim.Native.Nat.{ℕ, ◌+◌, ◌≤◌, ◌<◌}
use native.Mathlib.Omega.{arith}
use lib.ListN.{length, take, length-take}
use Rattle.spans.specs.Span.{part, part_or, put}
use Rattle.spans.proofs.Part.{length_part, part-take, part_or_in}
use Rattle.spans.proofs.Writing.{Writing, wrote, front}
use Rattle.numbers.specs.Number.{le}
use Rattle.numbers.proofs.Numbers.{length-le}
use Rattle.build_sources.specs.Keys.{src_of}

module _ (a₀ : List ℕ) (footing : ℕ) (whole a : List ℕ) (to : ℕ) (z x y : List ℕ) (h : Writing a₀ footing whole a to z) (e : z ≡ x ++ y) where
  pub wrote_n : (n : ℕ) (a' : List ℕ) (to' : ℕ) → length x ≡ n → a' ≡ put a to x → to' ≡ to + n → Writing a₀ footing whole a' to' y
  wrote_n n a' to' l p q = wrote a₀ footing whole a to z x y a' to' h e p (q ∙ ap (λ (k : ℕ). to + k) (sym l))

  pub room-n : (n : ℕ) → length x ≡ n → to + n ≤ length a
  room-n n l = rw l at (front a₀ footing whole a to z x y h e)

-- a number
module _ (a₀ : List ℕ) (footing : ℕ) (whole a : List ℕ) (to : ℕ) (z : List ℕ) (k v : ℕ) (y : List ℕ) (h : Writing a₀ footing whole a to z) (e : z ≡ le k v ++ y) where
  pub wrote_le : (a' : List ℕ) (to' : ℕ) → a' ≡ put a to (le k v) → to' ≡ to + k → Writing a₀ footing whole a' to' y
  wrote_le a' to' p q = wrote_n a₀ footing whole a to z (le k v) y h e k a' to' (length-le k v) p q

  pub room-le : to + k ≤ length a
  room-le = room-n a₀ footing whole a to z (le k v) y h e k (length-le k v)

-- a copied part
module _ (a₀ : List ℕ) (footing : ℕ) (whole a : List ℕ) (to : ℕ) (z y l : List ℕ) (b : Bool) (from n : ℕ) (h : Writing a₀ footing whole a to z)
    (e : z ≡ part (src_of l (take footing a₀) b) from n ++ y) (k : from + n ≤ length (src_of l (take footing a₀) b)) where
  pub wrote_part : (a' : List ℕ) (to' : ℕ) → a' ≡ put a to (part (src_of l (take footing a) b) from n) → to' ≡ to + n → Writing a₀ footing whole a' to' y
  wrote_part a' to' p q =
      wrote a₀ footing whole a to z (part (src_of l (take footing a₀) b) from n) y a' to' h e
      (p ∙ ap (λ (w : List ℕ). put a to (part (src_of l w b) from n)) h.same)
      (q ∙ ap (λ (m : ℕ). to + m) (sym (length_part (src_of l (take footing a₀) b) from n k)))

  pub part_asks : (footing ≤ to) × ((to + n ≤ length a) × (from + n ≤ length (src_of l (take footing a) b)))
  part_asks = rw h.same (h.over, (rw (length_part (src_of l (take footing a₀) b) from n k) at (front a₀ footing whole a to z (part (src_of l (take footing a₀) b) from n) y h e), k))

-- ---- where a part of the source lies

module _ (l a : List ℕ) (footing from n : ℕ) where
  below : from + n ≤ length (take footing a) → from + n ≤ footing
  below h = omega (arith, length-take footing a)

  pub ground_asks : (b : Bool) (at : ℕ) → b ≡ true → from + n ≤ length (src_of l (take footing a) b) → footing ≤ at → at + n ≤ length a → (from + n ≤ at) × (at + n ≤ length a)
  ground_asks true at e h o r = (omega (arith, below h), r)
  ground_asks false at e h o r = absurd (let z : ◌≡◌ {A = ℕ} 0 1 = cc in omega arith)

  pub footing-part : (b : Bool) → b ≡ true → from + n ≤ length (src_of l (take footing a) b) → part a from n ≡ part (src_of l (take footing a) b) from n
  footing-part true e h = sym (part-take from a n footing (below h))
  footing-part false e h = absurd (let z : ◌≡◌ {A = ℕ} 0 1 = cc in omega arith)

  pub list-part : (b : Bool) → b ≡ false → from + n ≤ length (src_of l (take footing a) b) → part_or l from n ≡ part (src_of l (take footing a) b) from n
  list-part false e h = part_or_in l from n h
  list-part true e h = absurd (let z : ◌≡◌ {A = ℕ} 0 1 = cc in omega arith)

  pub list_asks : (b : Bool) (at : ℕ) (s : List ℕ) → b ≡ false → from + n ≤ length (src_of l (take footing a) b) → at + n ≤ length a → s ≡ part_or l from n → at + length s ≤ length a
  list_asks false at s e h r q = omega (arith, ap length (q ∙ part_or_in l from n h), length_part l from n h)
  list_asks true at s e h r q = absurd (let z : ◌≡◌ {A = ℕ} 0 1 = cc in omega arith)
