-- The halving of document 001, over a comparison that may refuse.
-- Assumes nothing.
use Rattle.std.specs.Prelude.{ℕ, zero, suc, ◌+◌, ◌-◌, ◌/◌, Bool, true, false, List, [], ◌∷◌, ltb, Option, Some, None}
use Rattle.sst.specs.declared.Halved.{Halved}
use Rattle.std.specs.declared.cmp.Ordering.{Ordering}

-- two byte strings, compared
abbrev pub asked : Ordering → Option Ordering
asked Ordering.Less = Some Ordering.Less
asked Ordering.Equal = Some Ordering.Equal
asked Ordering.Greater = Some Ordering.Greater

-- "at equal keys the newer version comes first": a lower bound meets no key, an equal one with a newer version comes before the probe,
-- any other behind it
abbrev pub lowered : Bool → Option Ordering → Option Ordering
lowered newer (Some Ordering.Less) = Some Ordering.Less
lowered true (Some Ordering.Equal) = Some Ordering.Less
lowered false (Some Ordering.Equal) = Some Ordering.Greater
lowered newer (Some Ordering.Greater) = Some Ordering.Greater
lowered newer None = None

-- "middle is low + (high − low)/2"
abbrev pub mid : ℕ → ℕ → ℕ
mid lo hi = lo + (hi - lo) / 2

-- fuel, low, high, keys read so far: each step reads the key in the middle
unfoldable pub halve : (ℕ → Option Ordering) → ℕ → ℕ → ℕ → ℕ → Option Halved
halve f zero lo hi reads = Some (Halved.End lo reads)
halve f (suc k) lo hi reads =
    elim (ltb lo hi) [
      | false ↦ Some (Halved.End lo reads)
      | true ↦ elim (f (mid lo hi)) [
        | (Some Ordering.Less) ↦ halve f k (mid lo hi + 1) hi (reads + 1)
        | (Some Ordering.Equal) ↦ Some (Halved.At (mid lo hi) (reads + 1))
        | (Some Ordering.Greater) ↦ halve f k lo (mid lo hi) (reads + 1)
        | None ↦ None
      ]
    ]

-- the positions whose keys it reads, in order
unfoldable pub steps : (ℕ → Option Ordering) → ℕ → ℕ → ℕ → List ℕ
steps f zero lo hi = []
steps f (suc k) lo hi =
    elim (ltb lo hi) [
      | false ↦ []
      | true ↦ mid lo hi ∷ elim (f (mid lo hi)) [ (Some Ordering.Less) ↦ steps f k (mid lo hi + 1) hi | (Some Ordering.Equal) ↦ [] | (Some Ordering.Greater) ↦ steps f k lo (mid lo hi) | None ↦ [] ]
    ]
