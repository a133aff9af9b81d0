-- Document 01's number for each answer of the public calls: 0 where the call answers.
-- Assumes nothing.
use Rattle.std.specs.Prelude.{ℕ, Result, Ok, Err}
use Rattle.frames.specs.Refusals.{number_of}
use Rattle.frames.specs.declared.Refusal.{Refusal}
use Rattle.walks.specs.declared.Step.{Step}
use Rattle.walks.specs.declared.Walk.{Walk}

abbrev pub begun_number : Result Walk Refusal → ℕ
begun_number (Ok w) = 0
begun_number (Err r) = number_of r

abbrev pub step_number : Result Step Refusal → ℕ
step_number (Ok (Step.Found x w)) = 0
step_number (Ok (Step.Leads x w)) = 0
step_number (Ok Step.End) = 0
step_number (Err r) = number_of r
