-- Document 01's table of refusals, for every call that builds: "Each is judged on the whole input, lower numbers first".
-- Assumes nothing.
use Rattle.std.specs.Prelude.{List, [], ◌∷◌, Bool, cond}
use Rattle.frames.specs.declared.Refusal.{Refusal}

-- a row of the table: what must hold, else the refusal
pub record Row : Type 0 where
  pub holds : Bool
  pub else : Refusal

abbrev pub row : Bool → Refusal → Row
row b r = record { holds = b; else = r }

-- the first row that does not hold refuses; where all hold, the call answers
abbrev pub judged {ℓ} : {X : Type ℓ} → List Row → (Refusal → X) → X → X
judged [] stop go = go
judged (r ∷ rs) stop go = cond r.holds (judged rs stop go) (stop r.else)
