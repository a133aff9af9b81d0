-- Document 01, building rule 1.
-- Assumes nothing.
use Rattle.std.specs.Prelude.{ℕ, suc, List, [], ◌∷◌, cond, eqb}

-- "Prefix length: count of equal leading bytes of lo and hi; 0 without hi. An empty hi is stored as none"
unfoldable pub common : List ℕ → List ℕ → ℕ
common [] hi = 0
common (x ∷ lo) [] = 0
common (x ∷ lo) (y ∷ hi) = cond (eqb x y) (suc (common lo hi)) 0
