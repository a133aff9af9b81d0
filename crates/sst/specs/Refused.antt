-- Document 01's number for each answer of the public calls: 0 where the call answers.
-- Assumes nothing.
use Rattle.std.specs.Prelude.{ℕ, Result, Ok, Err}
use Rattle.frames.specs.Refusals.{number_of}
use Rattle.frames.specs.declared.Refusal.{Refusal}
use Rattle.sst.specs.declared.Bound.{Bound}
use Rattle.sst.specs.declared.Floor.{Floor}
use Rattle.sst.specs.declared.Found.{Found}

abbrev pub bound_number : Result Bound Refusal → ℕ
bound_number (Ok (Bound.At p n)) = 0
bound_number (Ok (Bound.PastEnd p n)) = 0
bound_number (Err r) = number_of r

abbrev pub floor_number : Result Floor Refusal → ℕ
floor_number (Ok (Floor.Is i p n)) = 0
floor_number (Ok (Floor.Nothing n)) = 0
floor_number (Err r) = number_of r

abbrev pub found_number : Result Found Refusal → ℕ
found_number (Ok (Found.Is i v h p n)) = 0
found_number (Ok (Found.Nothing n)) = 0
found_number (Err r) = number_of r
