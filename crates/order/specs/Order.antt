-- The order of byte strings: by the first byte in which they differ, a proper prefix first.
-- Assumes nothing.
use Rattle.std.specs.Prelude.{ℕ, List, [], ◌∷◌, Bool, true, false, cond, ltb, eqb}
use Rattle.std.specs.declared.cmp.Ordering.{Ordering}
use Rattle.std.specs.declared.cmp.Ordering.TheVariants.{Less, Equal, Greater}

-- by two numbers, and by k where they are equal
abbrev pub by_number : ℕ → ℕ → Ordering → Ordering
by_number x y k = cond (ltb x y) Less (cond (ltb y x) Greater k)

unfoldable pub cmp_bytes : List ℕ → List ℕ → Ordering
cmp_bytes [] [] = Equal
cmp_bytes [] (y ∷ ys) = Less
cmp_bytes (x ∷ xs) [] = Greater
cmp_bytes (x ∷ xs) (y ∷ ys) = by_number x y (cmp_bytes xs ys)

abbrev pub is_equal : Ordering → Bool
is_equal Less = false
is_equal Equal = true
is_equal Greater = false

abbrev pub is_less : Ordering → Bool
is_less Less = true
is_less Equal = false
is_less Greater = false

-- seen from the other side
abbrev pub flip : Ordering → Ordering
flip Less = Greater
flip Equal = Equal
flip Greater = Less

-- whether the first bytes begin the second
unfoldable pub starts_with : List ℕ → List ℕ → Bool
starts_with [] ys = true
starts_with (x ∷ xs) [] = false
starts_with (x ∷ xs) (y ∷ ys) = cond (eqb x y) (starts_with xs ys) false
