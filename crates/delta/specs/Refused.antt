-- Document 01's number for each answer of the readers: 0 where the call answers. A building call's is image's `built_number`.
-- Assumes nothing.
use Rattle.std.specs.Prelude.{ℕ, Result, Ok, Err}
use Rattle.frames.specs.Refusals.{number_of}
use Rattle.delta.specs.declared.LeafKey.{LeafKey}
use Rattle.frames.specs.declared.PageId.{PageId}
use Rattle.frames.specs.declared.Refusal.{Refusal}
use Rattle.pages.specs.declared.Place.{Place}

abbrev pub leaf_key_number : Result LeafKey Refusal → ℕ
leaf_key_number (Ok k) = 0
leaf_key_number (Err r) = number_of r

abbrev pub index_key_number : Result Place Refusal → ℕ
index_key_number (Ok p) = 0
index_key_number (Err r) = number_of r

abbrev pub value_number : Result Place Refusal → ℕ
value_number (Ok p) = 0
value_number (Err r) = number_of r

abbrev pub child_number : Result PageId Refusal → ℕ
child_number (Ok p) = 0
child_number (Err r) = number_of r
