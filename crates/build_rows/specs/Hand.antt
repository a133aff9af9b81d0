-- The history page in hand, and where an old version stands.
-- Assumes nothing.
use Rattle.std.specs.Prelude.{ℕ, ◌<◌, ◌≡◌, List, ◌⊎◌, Some}
use Rattle.frames.specs.declared.Addr.{Addr}
use Rattle.frames.specs.declared.Body.{Body}
use Rattle.records.specs.declared.Rec.{Rec}
use Rattle.pages.specs.Sound.{history_at, old_at, old_version}
use Rattle.build_rows.specs.declared.Hand.{Hand}
use Rattle.build_rows.specs.declared.Old.{Old}
use Rattle.build_rows.specs.declared.Spot.{Spot}
use Rattle.build_rows.specs.Judged.{old_of}

-- it is the history page at its address
pub record Holds (w : List ℕ) (h : Hand) : Type 0 where
  pub body : Body
  pub opened : history_at w h.page ≡ Some body
  pub at : h.at ≡ body.at
  pub elems : h.elems ≡ body.elems
  pub link : h.link ≡ body.link

-- none is in hand, or one is
abbrev pub Known : List ℕ → Hand → Type 0
Known w h = (h.page.0 ≡ 0) ⊎ Holds w h

-- a history page stands at an address
abbrev pub Opens : List ℕ → Addr → Type 0
Opens w a = (b : Body) × (history_at w a ≡ Some b)

-- an old version stands at a slot: in its page, or first in the page that is linked to
abbrev pub Answers : List ℕ → Addr → ℕ → Type 0
Answers w a i = (p : Addr) × (q : ℕ) × (r : Rec) × (old_at w a i ≡ Some (old_version p q r))

-- the page and the slot where it stands
pub record SpotAt (w : List ℕ) (a : Addr) (i : ℕ) (x : Spot) : Type 0 where
  pub holds : Holds w x.hand
  pub slot : x.slot < x.hand.elems
  pub same : (p : Addr) (q : ℕ) (r : Rec) → old_at w a i ≡ Some (old_version p q r) → (x.hand.page ≡ p) × (x.slot ≡ q)

-- what is read there
abbrev pub OldAt : List ℕ → Addr → ℕ → Old → Type 0
OldAt w a i x = (p : Addr) (q : ℕ) (r : Rec) → old_at w a i ≡ Some (old_version p q r) → x ≡ old_of r
