-- Unsigned LEB128 (DWARF 5, 7.6): seven bits to a byte, the lowest first, 128 added to each byte but the last; the shortest form
-- only, at most five bytes, a value within u32.
-- Assumes nothing.
use Rattle.std.specs.Prelude.{ℕ, zero, suc, ◌+◌, ◌*◌, ◌-◌, ◌/◌, ◌%◌, List, [], ◌∷◌, cond, drop, ltb, eqb, Option, Some, None}

-- the shortest form of n, in at most k bytes
unfoldable pub enc : ℕ → ℕ → List ℕ
enc zero n = []
enc (suc k) n = cond (ltb n 128) (n ∷ []) ((n % 128 + 128) ∷ enc k (n / 128))

unfoldable pub uleb : ℕ → List ℕ
unfolding enc
uleb n = enc 5 n

-- a, and p times what was read behind it, which is not 0 in the shortest form
unfoldable pub carry : ℕ → ℕ → Option (ℕ × ℕ) → Option (ℕ × ℕ)
carry a p (Some (v, next)) = cond (eqb v 0) None (Some (a + p * v, next))
carry a p None = None

-- what stands in front of l, whose first byte is at index here, in at most k bytes
unfoldable pub dec : ℕ → List ℕ → ℕ → Option (ℕ × ℕ)
unfolding carry
dec zero l here = None
dec (suc k) [] here = None
dec (suc k) (b ∷ l) here = cond (ltb b 128) (Some (b, here + 1)) (carry (b - 128) 128 (dec k l (here + 1)))

unfoldable pub within : Option (ℕ × ℕ) → Option (ℕ × ℕ)
within (Some (v, next)) = cond (ltb v 4294967296) (Some (v, next)) None
within None = None

unfoldable pub read_len : List ℕ → ℕ → Option (ℕ × ℕ)
unfolding dec within
read_len s at = within (dec 5 (drop at s) at)
