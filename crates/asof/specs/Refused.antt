-- Document 01's number for each answer: 0 where the call answers.
-- Assumes nothing.
use Rattle.std.specs.Prelude.{ℕ, Result, Ok, Err}
use Rattle.frames.specs.Refusals.{number_of}
use Rattle.asof.specs.declared.AsOf.{AsOf}
use Rattle.frames.specs.declared.Refusal.{Refusal}

abbrev pub as_of_number : Result AsOf Refusal → ℕ
as_of_number (Ok (AsOf.Is i v p n)) = 0
as_of_number (Ok (AsOf.Nothing n)) = 0
as_of_number (Err r) = number_of r
