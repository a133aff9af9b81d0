-- What the history page in hand comes to in a lookup as of a version: "finishing from there gives the answer".
-- Assumes nothing.
use Rattle.std.specs.Prelude.{ℕ, ◌+◌, ◌-◌, ◌^◌, ◌≤◌, ◌<◌, ◌≡◌, List, Ok}
use Rattle.order.specs.declared.Ver.{Ver}
use Rattle.walks.specs.declared.OldPlace.{OldPlace}
use Rattle.walks.specs.Walk.{older_of}
use Rattle.asof.specs.declared.InHand.{InHand}
use Rattle.asof.specs.AsOf.{old_as_of}
use Rattle.asof.specs.declared.AsOf.{AsOf}

-- behind n old versions of the same page
abbrev pub further_of : OldPlace → ℕ → OldPlace
further_of p n = older_of p.page p.link (p.slot + n) (p.left - n)

-- the answer is the one from there, whatever slot and count of keys it is told with
pub record GoesOn (s : List ℕ) (v : Ver) (from to : OldPlace) : Type 0 where
  pub few : to.left ≤ from.left
  pub same : (slot reads : ℕ) → old_as_of s v slot reads to.left to ≡ old_as_of s v slot reads from.left from

-- so many old versions of the page are newer
pub record Passes (s : List ℕ) (v : Ver) (from : OldPlace) (n : ℕ) : Type 0 where
  pub few : n ≤ from.left
  pub word : from.slot + n < 2 ^ 64
  pub on : GoesOn s v from (further_of from n)

abbrev pub InHands : List ℕ → Ver → OldPlace → InHand → Type 0
InHands s v from (InHand.Is ver value) = (slot reads : ℕ) → old_as_of s v slot reads from.left from ≡ Ok (AsOf.Is slot ver value reads)
InHands s v from (InHand.On to) = GoesOn s v from to
