-- A list and a longer one that begins with it: what is read inside the shorter one is the same in both.
-- Assumes nothing.
use Prim.Native.Nat.{ℕ, ◌+◌, ◌≤◌, ◌<◌}
use mathlib.Core.Path.{◌≡◌, refl, sym, ap, ◌∙◌}
use mathlib.Core.List.{List}
use native.Mathlib.Omega.{arith}
use lib.ListN.{length, take, get_or}
use lib.Seq.{take-take, get_or-take, length-take-le}
use Rattle.spans.specs.Span.{part}
use Rattle.spans.proofs.Part.{part-take}
use Rattle.numbers.specs.Number.{of_le, le_at}

-- s is t and more behind it
pub record Grown (t s : List ℕ) : Type 0 where
  pub long : length t ≤ length s
  pub same : take (length t) s ≡ t

-- the part of an arena below a mark
pub grown_take : (n : ℕ) (s : List ℕ) → n ≤ length s → Grown (take n s) s
grown_take n s h =
    let l = length-take-le n s h in
    record { long = omega (arith, l); same = ap (λ (m : ℕ). take m s) l }

module _ (t s : List ℕ) (g : Grown t s) where
  pub stay_take : (n : ℕ) → n ≤ length t → take n s ≡ take n t
  stay_take n h = sym (take-take n (length t) s h) ∙ ap (take n) g.same

  pub stay_part : (i n : ℕ) → i + n ≤ length t → part s i n ≡ part t i n
  stay_part i n h = sym (part-take i s n (length t) h) ∙ ap (λ (l : List ℕ). part l i n) g.same

  pub stay_byte : (i : ℕ) → i < length t → get_or s i 0 ≡ get_or t i 0
  stay_byte i h = sym (get_or-take (length t) s i 0 h) ∙ ap (λ (l : List ℕ). get_or l i 0) g.same

  pub stay_number : (k i : ℕ) → i + k ≤ length t → le_at k s i ≡ le_at k t i
  unfolding le_at
  stay_number k i h = ap of_le (stay_part i k h)
