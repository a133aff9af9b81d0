-- Where what was read ends: in the text, so that a loop over it goes on and ends. What a text that is read means is tested by running, not proved.
-- Assumes nothing.
use Rattle.std.specs.Prelude.{ℕ, ◌≤◌, ◌<◌, List, length, Option, Some, None}

-- a number ends behind its first digit
abbrev pub Ends : List ℕ → ℕ → Option (ℕ × ℕ) → Type 0
Ends s at (Some (v, next)) = (at < next) × (next ≤ length s)
Ends s at None = Unit

-- a place from at on
pub record Reaches (s : List ℕ) (at r : ℕ) : Type 0 where
  pub from : at ≤ r
  pub inside : at ≤ length s → r ≤ length s
