-- Document 01's number for each answer of the public calls: 0 where the call answers.
-- Assumes nothing.
use Rattle.std.specs.Prelude.{ℕ, Option, Some, None, Result, Ok, Err}
use Rattle.frames.specs.declared.Refusal.{Refusal}
use Rattle.frames.specs.Refusals.{number_of}
use Rattle.pages.specs.declared.Bounds.{Bounds}
use Rattle.pages.specs.declared.Hints.{Hints}
use Rattle.pages.specs.declared.OldVersion.{OldVersion}

abbrev pub checked_number : Result Unit Refusal → ℕ
checked_number (Ok tt) = 0
checked_number (Err r) = number_of r

abbrev pub old_number : Option OldVersion → ℕ
old_number (Some o) = 0
old_number None = number_of Refusal.BadFrame

abbrev pub bounds_number : Result Bounds Refusal → ℕ
bounds_number (Ok b) = 0
bounds_number (Err r) = number_of r

abbrev pub hints_number : Result (Option Hints) Refusal → ℕ
hints_number (Ok (Some h)) = 0
hints_number (Ok None) = 0
hints_number (Err r) = number_of r
