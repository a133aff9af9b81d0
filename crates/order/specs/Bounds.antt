-- Keys between two boundaries (order 4): "a key below lo, or not below a nonempty hi, is refused, a lo not below a nonempty hi too".
-- Assumes nothing.
use Rattle.std.specs.Prelude.{ℕ, List, [], ◌∷◌, Bool, true, false, not, ◌&&◌}
use Rattle.std.specs.declared.cmp.Ordering.{Ordering}
use Rattle.order.specs.Order.{cmp_bytes, is_equal, is_less}

-- below hi, by how it compares with hi; an empty hi is none, and everything is below it
abbrev pub below_by : Ordering → List ℕ → Bool
below_by o [] = true
below_by o (h ∷ hi) = is_less o

unfoldable pub below_hi : List ℕ → List ℕ → Bool
below_hi x hi = below_by (cmp_bytes x hi) hi

-- a key that is not below lo, and below hi
abbrev pub in_bounds : List ℕ → List ℕ → List ℕ → Bool
in_bounds lo hi key = not (is_less (cmp_bytes key lo)) && below_hi key hi

-- each of them is
unfoldable pub all_in_bounds : List ℕ → List ℕ → List (List ℕ) → Bool
all_in_bounds lo hi [] = true
all_in_bounds lo hi (k ∷ ks) = in_bounds lo hi k && all_in_bounds lo hi ks

-- lo below hi, and each key between them
unfoldable pub bounded : List ℕ → List ℕ → List (List ℕ) → Bool
bounded lo hi ks = below_hi lo hi && all_in_bounds lo hi ks

-- boundaries that meet: "a merge needs the left hi to equal the right lo, with a left page without hi refused"
unfoldable pub meet : List ℕ → List ℕ → Bool
meet [] lo = false
meet (h ∷ hi) lo = is_equal (cmp_bytes (h ∷ hi) lo)

-- of keys that rise the first and the last decide (proofs/Bounds.antt, `ends_decide`)
abbrev pub spanned : List ℕ → List ℕ → List ℕ → List ℕ → Bool
spanned lo hi first last = not (is_less (cmp_bytes first lo)) && below_hi last hi
