-- Numbers of k bytes, the lowest byte first (le) and the highest first (be): one definition for every width.
-- Assumes nothing.
use Rattle.std.specs.Prelude.{ℕ, zero, suc, ◌+◌, ◌*◌, ◌/◌, ◌%◌, ◌<◌, List, [], ◌∷◌, reverse, get_or}
use Rattle.spans.specs.Span.{part}

-- the lowest k bytes of n, the lowest first
unfoldable pub le : ℕ → ℕ → List ℕ
le zero n = []
le (suc k) n = n % 256 ∷ le k (n / 256)

-- the number whose bytes are these, the lowest first
unfoldable pub of_le : List ℕ → ℕ
of_le [] = 0
of_le (b ∷ bs) = b + 256 * of_le bs

-- the same, the highest first
unfoldable pub be : ℕ → ℕ → List ℕ
be k n = reverse (le k n)

unfoldable pub of_be : List ℕ → ℕ
of_be bs = of_le (reverse bs)

-- the number of n's lowest k bytes, turned round
unfoldable pub turned : ℕ → ℕ → ℕ
turned k n = of_be (le k n)

-- the number of k bytes at index i
unfoldable pub le_at : ℕ → List ℕ → ℕ → ℕ
le_at k s i = of_le (part s i k)

unfoldable pub be_at : ℕ → List ℕ → ℕ → ℕ
be_at k s i = of_be (part s i k)

-- each element is a byte
abbrev pub Bytes : List ℕ → Type 0
Bytes l = (i : ℕ) → get_or l i 0 < 256
