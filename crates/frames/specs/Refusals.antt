-- Document 01's numbers of refusal, in the order in which they are judged: 10 (order 4) stands between 7 and 8.
-- Assumes nothing.
use Rattle.std.specs.Prelude.{ℕ, ◌≡◌, ◌⊎◌, Option, Some, None}
use Rattle.frames.specs.declared.Refusal.{Refusal}
use Rattle.frames.specs.declared.Refusal.TheVariants.{BadLimit, BadArena, BadList, BadFrame, MixedKinds, OutOfOrder, WrongPrefix, Outside, TooBig, NoRoom}
use Rattle.frames.specs.declared.BaseHeader.{BaseHeader}
use Rattle.frames.specs.declared.Body.{Body}
use Rattle.frames.specs.declared.BoxHeader.{BoxHeader}
use Rattle.frames.specs.declared.Delta.{Delta}

abbrev pub number_of : Refusal → ℕ
number_of BadLimit = 1
number_of BadArena = 2
number_of BadList = 3
number_of BadFrame = 4
number_of MixedKinds = 5
number_of OutOfOrder = 6
number_of WrongPrefix = 7
number_of Outside = 10
number_of TooBig = 8
number_of NoRoom = 9

-- what a reader's number can be, 0 where it answers: "7 stays for keys handed to a build or merge only" (order 3), and no other was a reader's
abbrev pub ZeroOrFour : ℕ → Type 0
ZeroOrFour n = (n ≡ 0) ⊎ (n ≡ 4)

-- the number of a reader's answer: 4 where an address is no such frame's, 0 where it answers

abbrev pub frame_number : Option BoxHeader → ℕ
frame_number (Some h) = 0
frame_number None = number_of BadFrame

abbrev pub page_number : Option (BoxHeader × BaseHeader) → ℕ
page_number (Some (x, h)) = 0
page_number None = number_of BadFrame

abbrev pub opened_number : Option Body → ℕ
opened_number (Some b) = 0
opened_number None = number_of BadFrame

abbrev pub remote_number : Option ℕ → ℕ
remote_number (Some p) = 0
remote_number None = number_of BadFrame

abbrev pub delta_number : Option Delta → ℕ
delta_number (Some d) = 0
delta_number None = number_of BadFrame
