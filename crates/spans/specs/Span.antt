-- A stretch of a list of bytes: read, stored, lying at an index. Every read of the library is of a `part`, every store is one `put`.
-- Assumes nothing.
use Rattle.std.specs.Prelude.{ℕ, ◌+◌, ◌-◌, ◌≡◌, List, [], ◌∷◌, Bool, cond, length, take, drop, set, leb}

-- the n bytes from index i on
unfoldable pub part : List ℕ → ℕ → ℕ → List ℕ
part a i n = take n (drop i a)

-- the same where they are all there, else nothing: what a caller is lent
unfoldable pub part_or : List ℕ → ℕ → ℕ → List ℕ
part_or a i n = cond (leb i (length a)) (cond (leb n (length a - i)) (part a i n) []) []

-- the list a with the bytes x stored from index i on, one store after another
unfoldable pub put : List ℕ → ℕ → List ℕ → List ℕ
put a i [] = a
put a i (b ∷ x) = put (set a i b) (i + 1) x

-- the bytes x stand at index i
unfoldable pub Lies : List ℕ → ℕ → List ℕ → Type 0
Lies a i x = part a i (length x) ≡ x

-- what a store that takes any index does: the bytes x from i on where they all fit, else nothing; and how many bytes it stored
unfoldable pub put_if : List ℕ → ℕ → List ℕ → List ℕ
put_if a i x = cond (leb (i + length x) (length a)) (put a i x) a

unfoldable pub count_if : List ℕ → ℕ → List ℕ → ℕ
count_if a i x = cond (leb (i + length x) (length a)) (length x) 0

-- such a store of what may be stored at all (ok): its answer r, and a afterwards
pub record Stored (ok : Bool) (a : List ℕ) (i : ℕ) (x : List ℕ) (r : ℕ) (a' : List ℕ) : Type 0 where
  pub count : r ≡ cond ok (count_if a i x) 0
  pub bytes : a' ≡ cond ok (put_if a i x) a
