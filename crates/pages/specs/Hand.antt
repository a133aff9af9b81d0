-- The history page that the check has in hand: a page once judged is not judged again, as long as pages come in order.
-- Assumes nothing.
use Rattle.std.specs.Prelude.{ℕ, ◌<◌, ◌≡◌, List, ◌⊎◌, false, cond, Option, Some, None}
use Rattle.order.specs.declared.Ver.{Ver}
use Rattle.frames.specs.declared.Addr.{Addr}
use Rattle.frames.specs.declared.Body.{Body}
use Rattle.pages.specs.declared.Hand.{Hand}
use Rattle.pages.specs.declared.Spot.{Spot}
use Rattle.pages.specs.Sound.{slots_ok, history_at, old_at, chain_from}

abbrev pub hand_of : Addr → Body → Hand
hand_of a b = record { page = a; at = b.at; elems = b.elems; link = b.link }

-- the page at an address taken in hand, where it is whole
abbrev pub judged_of : List ℕ → Addr → Option Body → Option Hand
judged_of s a (Some b) = cond (slots_ok s b) (Some (hand_of a b)) None
judged_of s a None = None

unfoldable pub judged_at : List ℕ → Addr → Option Hand
judged_at s a = judged_of s a (history_at s a)

-- a page in hand was judged
abbrev pub Held : List ℕ → Hand → Type 0
Held s h = judged_at s h.page ≡ Some h

-- none is in hand, or one that was judged
abbrev pub Known : List ℕ → Hand → Type 0
Known s h = (h.page.0 ≡ 0) ⊎ Held s h

-- the old version at slot i of the page in hand stands in a page that was judged; or no chain goes on there
pub record TurnsTo (s : List ℕ) (h : Hand) (i : ℕ) (p : Spot) : Type 0 where
  pub held : Held s p.hand
  pub slot : p.slot < p.hand.elems
  pub same : old_at s h.page i ≡ old_at s p.hand.page p.slot

abbrev pub TurnedTo : List ℕ → Hand → ℕ → Option Spot → Type 0
TurnedTo s h i (Some p) = TurnsTo s h i p
TurnedTo s h i None = (n : ℕ) (t : Ver) → 0 < n → chain_from s n h.page i t ≡ false
