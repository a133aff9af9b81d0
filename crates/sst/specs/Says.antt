-- What the answers of the three searches say of a page with a meaning: words over the meaning's rows and whole keys.
-- Assumes nothing.
use Rattle.std.specs.Prelude.{ℕ, ◌≤◌, ◌<◌, ◌≡◌, List, [], Bool, true, false, length, get_or, Result, Ok, Err}
use Rattle.order.specs.declared.Ver.{Ver}
use Rattle.order.specs.Order.{cmp_bytes}
use Rattle.order.specs.Version.{ver_of, newer_than}
use Rattle.frames.specs.declared.PageId.{PageId}
use Rattle.frames.specs.Layout.{page_id}
use Rattle.values.specs.declared.HistRef.{HistRef}
use Rattle.pages.specs.declared.Place.{Place}
use Rattle.pages.specs.Meaning.{Head, Child, Rows, leaf, index, olds_from}
use Rattle.pages.specs.Boundaries.{part_in}
use Rattle.frames.specs.declared.Refusal.{Refusal}
use Rattle.sst.specs.declared.Bound.{Bound}
use Rattle.sst.specs.declared.Floor.{Floor}
use Rattle.sst.specs.declared.Found.{Found}
use Rattle.std.specs.declared.cmp.Ordering.{Ordering}

-- ---- the rows of a page

-- what stands behind the last row
abbrev pub no_head : Head
no_head = record { key = []; ver = ver_of 0 0; value = []; olds = [] }

abbrev pub no_child : Child
no_child = record { key = []; page = page_id 0 }

abbrev pub row_count : Rows → ℕ
row_count (leaf hs) = length hs
row_count (index cs) = length cs

-- the whole key of row i
abbrev pub row_key : Rows → ℕ → List ℕ
row_key (leaf hs) i = (get_or hs i no_head).key
row_key (index cs) i = (get_or cs i no_child).key

-- whether row i's version is newer than v; an index page has no versions
abbrev pub row_newer : Rows → Ver → ℕ → Bool
row_newer (leaf hs) v i = newer_than (get_or hs i no_head).ver v
row_newer (index cs) v i = false

-- "Keys compare by bytes, a proper prefix first; at equal keys the newer version comes first"
abbrev pub earlier : Bool → Ordering → Bool
earlier newer Ordering.Less = true
earlier newer Ordering.Equal = newer
earlier newer Ordering.Greater = false

-- row i is less than the probe
abbrev pub row_less : Rows → List ℕ → Ver → ℕ → Bool
row_less rows probe v i = earlier (row_newer rows v i) (cmp_bytes (row_key rows i) probe)

-- ---- the answers; none is a refusal, whatever the probe

-- "the first position not less": every row before it is less, none from it on is
pub record FirstNotLess (rows : Rows) (probe : List ℕ) (v : Ver) (q : ℕ) : Type 0 where
  pub before : (i : ℕ) → i < q → row_less rows probe v i ≡ true
  pub behind : (i : ℕ) → q ≤ i → i < row_count rows → row_less rows probe v i ≡ false

abbrev pub BoundSays : Rows → List ℕ → Ver → Result Bound Refusal → Type 0
BoundSays rows probe v (Ok (Bound.At q n)) = (q < row_count rows) × FirstNotLess rows probe v q
BoundSays rows probe v (Ok (Bound.PastEnd q n)) = (q ≡ row_count rows) × FirstNotLess rows probe v q
BoundSays rows probe v (Err r) = ⊥

-- "the greatest key not above, slot 0 below the first": every key behind it is above, and it is not above, or it is the first
pub record IsFloor (cs : List Child) (probe : List ℕ) (i : ℕ) (page : PageId) : Type 0 where
  pub inside : i < length cs
  pub above : (j : ℕ) → i < j → j < length cs → cmp_bytes (get_or cs j no_child).key probe ≡ Ordering.Greater
  pub not_above : (i ≡ 0 → ⊥) → cmp_bytes (get_or cs i no_child).key probe ≡ Ordering.Greater → ⊥
  pub leads : page ≡ (get_or cs i no_child).page

abbrev pub FloorSays : List Child → List ℕ → Result Floor Refusal → Type 0
FloorSays cs probe (Ok (Floor.Is i page n)) = IsFloor cs probe i page
FloorSays cs probe (Ok (Floor.Nothing n)) = length cs ≡ 0
FloorSays cs probe (Err r) = ⊥

-- the key's head: its position, its version, its value's bytes, and where its older versions are
pub record IsHead (s : List ℕ) (hs : List Head) (probe : List ℕ) (i : ℕ) (v : Ver) (h : HistRef) (x : Place) : Type 0 where
  pub inside : i < length hs
  pub key : (get_or hs i no_head).key ≡ probe
  pub ver : v ≡ (get_or hs i no_head).ver
  pub value : part_in s x ≡ (get_or hs i no_head).value
  pub olds : olds_from s h.count h.page h.slot ≡ (get_or hs i no_head).olds

abbrev pub FoundSays : List ℕ → List Head → List ℕ → Result Found Refusal → Type 0
FoundSays s hs probe (Ok (Found.Is i v h x n)) = IsHead s hs probe i v h x
FoundSays s hs probe (Ok (Found.Nothing n)) = (i : ℕ) → i < length hs → (get_or hs i no_head).key ≡ probe → ⊥
FoundSays s hs probe (Err r) = ⊥

-- an answer that found slot i
abbrev pub MeetsAt : ℕ → Result Found Refusal → Type 0
MeetsAt i (Ok (Found.Is j v h x n)) = j ≡ i
MeetsAt i (Ok (Found.Nothing n)) = ⊥
MeetsAt i (Err r) = ⊥

-- ---- the keys read

abbrev pub bound_reads : Result Bound Refusal → ℕ
bound_reads (Ok (Bound.At q n)) = n
bound_reads (Ok (Bound.PastEnd q n)) = n
bound_reads (Err r) = 0

abbrev pub floor_reads : Result Floor Refusal → ℕ
floor_reads (Ok (Floor.Is i page n)) = n
floor_reads (Ok (Floor.Nothing n)) = n
floor_reads (Err r) = 0

abbrev pub found_reads : Result Found Refusal → ℕ
found_reads (Ok (Found.Is i v h x n)) = n
found_reads (Ok (Found.Nothing n)) = n
found_reads (Err r) = 0
