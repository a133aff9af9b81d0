-- A page's records, slot by slot, as a list of what they say: each is read at its slot, begins where the one before ended, and says its own.
-- Assumes nothing.
use Rattle.std.specs.Prelude.{ℕ, ◌+◌, ◌≡◌, List, [], ◌∷◌, Some}
use Rattle.order.specs.Order.{cmp_bytes}
use Rattle.frames.specs.declared.Body.{Body}
use Rattle.records.specs.declared.Rec.{Rec}
use Rattle.records.specs.Records.{rec_at}
use Rattle.pages.specs.Sound.{multi_of}
use Rattle.std.specs.declared.cmp.Ordering.{Ordering}

-- P r a: the record r says a
unfoldable pub Rows : {A : Type 0} → (Rec → A → Type 0) → List ℕ → Body → ℕ → ℕ → List A → Type 0
Rows P s b i want [] = Unit {0}
Rows P s b i want (a ∷ xs) = (r : Rec) × (rec_at s b i ≡ Some r) × (r.from ≡ want) × P r a × Rows P s b (i + 1) r.next xs

-- the keys rise strictly from one before them on
unfoldable pub Up : {A : Type 0} → (A → List ℕ) → List ℕ → List A → Type 0
Up key before [] = Unit {0}
Up key before (a ∷ xs) = (cmp_bytes before (key a) ≡ Ordering.Less) × Up key (key a) xs

unfoldable pub UpAll : {A : Type 0} → (A → List ℕ) → List A → Type 0
unfolding Up
UpAll key [] = Unit {0}
UpAll key (a ∷ xs) = Up key (key a) xs

-- 1 where one of them counts old versions, else m
unfoldable pub multis : {A : Type 0} → (A → ℕ) → ℕ → List A → ℕ
unfolding multi_of
multis count m [] = m
multis count m (a ∷ xs) = multis count (multi_of m (count a)) xs
