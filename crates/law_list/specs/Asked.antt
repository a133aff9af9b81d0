-- What is asked of a page, said over the list that it was built from: its records, those of a range of keys, those of one key.
-- Assumes nothing.
use Rattle.std.specs.Prelude.{ℕ, ◌-◌, ◌^◌, ◌≡◌, Bool, not, ◌&&◌, cond, List, [], ◌∷◌, Result, Ok, Err}
use Rattle.order.specs.declared.Ver.{Ver}
use Rattle.order.specs.Order.{cmp_bytes, is_equal, is_less}
use Rattle.order.specs.Version.{ver_of}
use Rattle.pages.specs.Boundaries.{part_in}
use Rattle.pages.specs.Meaning.{olds_from}
use Rattle.build_sources.specs.Source.{Entry}
use Rattle.walks.specs.Listed.{Entry as Listed, older_entries}
use Rattle.frames.specs.declared.Refusal.{Refusal}
use Rattle.sst.specs.declared.Bound.{Bound}
use Rattle.sst.specs.declared.Found.{Found}

-- the records of a list, as a walk lists them: whole key, version, value
unfoldable pub records_of : List Entry → List Listed
records_of [] = []
records_of (e ∷ es) = (record { key = e.key; ver = e.ver; value = e.val }) ∷ records_of es

-- those whose key has a property, in order
unfoldable pub having : {A : Type 0} → (A → List ℕ) → (List ℕ → Bool) → List A → List A
having key p [] = []
having key p (x ∷ xs) = cond (p (key x)) (x ∷ having key p xs) (having key p xs)

-- from lo on, and below hi
abbrev pub between : List ℕ → List ℕ → List ℕ → Bool
between lo hi key = not (is_less (cmp_bytes key lo)) && is_less (cmp_bytes key hi)

abbrev pub same : List ℕ → List ℕ → Bool
same probe key = is_equal (cmp_bytes key probe)

abbrev pub key_is : Entry → List ℕ
key_is e = e.key

-- "demand 3 uses the largest version in its probes"
abbrev pub largest : Ver
largest = ver_of (256 ^ 8 - 1) (256 ^ 4 - 1)

-- the position that a lower bound gives
abbrev pub pos_of : Result Bound Refusal → ℕ
pos_of (Ok (Bound.At q n)) = q
pos_of (Ok (Bound.PastEnd q n)) = q
pos_of (Err r) = 0

-- a search's answer over the list, never a refusal: the first record of the key with all its older versions behind it in order, or the list has none
abbrev pub SearchSays : List ℕ → List Entry → List ℕ → Result Found Refusal → Type 0
SearchSays s es probe (Ok (Found.Is i v h x n)) =
    records_of (having key_is (same probe) es) ≡ (record { key = probe; ver = v; value = part_in s x }) ∷ older_entries probe (olds_from s h.count h.page h.slot)
SearchSays s es probe (Ok (Found.Nothing n)) = having key_is (same probe) es ≡ []
SearchSays s es probe (Err r) = ⊥
