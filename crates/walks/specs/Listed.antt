-- The records that a walk lists, as whole keys, versions and values: what the laws are stated over.
-- Assumes nothing.
use Rattle.std.specs.Prelude.{ℕ, ◌≡◌, List, [], ◌∷◌, ◌++◌, Result, Ok}
use Rattle.order.specs.declared.Ver.{Ver}
use Rattle.pages.specs.Boundaries.{part_in}
use Rattle.pages.specs.Meaning.{Older, Head, Child}
use Rattle.walks.specs.declared.Walk.{Walk}
use Rattle.walks.specs.declared.Item.{Item}
use Rattle.walks.specs.declared.Branch.{Branch}
use Rattle.walks.specs.Walk.{step_at}
use Rattle.frames.specs.declared.Refusal.{Refusal}
use Rattle.walks.specs.declared.Step.{Step}

-- a record: whole key, version, value
pub record Entry : Type 0 where
  pub key : List ℕ
  pub ver : Ver
  pub value : List ℕ

-- what a caller reads of an item: its parts of the arena, the key rest behind the page's prefix
unfoldable pub entry_of : List ℕ → List ℕ → Item → Entry
entry_of s prefix x = record { key = prefix ++ part_in s x.key; ver = x.ver; value = part_in s x.value }

-- a key's older versions in order
unfoldable pub older_entries : List ℕ → List Older → List Entry
older_entries key [] = []
older_entries key (o ∷ os) = (record { key = key; ver = o.ver; value = o.value }) ∷ older_entries key os

-- heads in order, each with its older versions behind it, newest first
unfoldable pub entries_of : List Head → List Entry
entries_of [] = []
entries_of (h ∷ hs) = (record { key = h.key; ver = h.ver; value = h.value }) ∷ (older_entries h.key h.olds ++ entries_of hs)

-- the walk w lists exactly these records, each once, and then ends; no step is refused
unfoldable pub WalksTo : List ℕ → List ℕ → Walk → List Entry → Type 0
WalksTo s prefix w [] = step_at s w ≡ Ok Step.End
WalksTo s prefix w (e ∷ es) = (x : Item) × (w' : Walk) × (step_at s w ≡ Ok (Step.Found x w')) × (entry_of s prefix x ≡ e) × WalksTo s prefix w' es

-- the same over an index page
unfoldable pub lead_of : List ℕ → List ℕ → Branch → Child
lead_of s prefix x = record { key = prefix ++ part_in s x.key; page = x.page }

unfoldable pub LeadsTo : List ℕ → List ℕ → Walk → List Child → Type 0
LeadsTo s prefix w [] = step_at s w ≡ Ok Step.End
LeadsTo s prefix w (e ∷ es) = (x : Branch) × (w' : Walk) × (step_at s w ≡ Ok (Step.Leads x w')) × (lead_of s prefix x ≡ e) × LeadsTo s prefix w' es

-- a walk that was begun lists exactly these records, and then ends
pub record Lists (s : List ℕ) (prefix : List ℕ) (b : Result Walk Refusal) (es : List Entry) : Type 0 where
  pub walk : Walk
  pub begun : b ≡ Ok walk
  pub lists : WalksTo s prefix walk es

pub record Leads (s : List ℕ) (prefix : List ℕ) (b : Result Walk Refusal) (cs : List Child) : Type 0 where
  pub walk : Walk
  pub begun : b ≡ Ok walk
  pub leads : LeadsTo s prefix walk cs
