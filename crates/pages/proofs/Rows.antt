-- The records of a sound page in order: one row to each slot, and the rows of a stretch of slots are that stretch of the rows.
-- Assumes nothing.
use Prim.Native.Nat.{ℕ, zero, suc, ◌+◌, ◌≤◌, ◌<◌}
use mathlib.Core.Path.{◌≡◌, refl, ap, ◌∙◌}
use mathlib.Core.Bool.{Bool, true, false}
use mathlib.Core.List.{List, ◌∷◌}
use native.Mathlib.Omega.{arith}
use borrow.Author.Tests.{eqb-true, eqb-false}
use lib.ListN.{length, take, drop}
use lib.Dec.{eqb}
use Rattle.frames.specs.declared.Body.{Body}
use Rattle.records.specs.declared.Rec.{Rec}
use Rattle.records.specs.Records.{rec_at}
use Rattle.records.proofs.Inside.{index_count}
use Rattle.values.specs.declared.HistRef.{HistRef}
use Rattle.pages.specs.Sound.{head_ok, slots_ok, chains_ok}
use Rattle.pages.specs.Meaning.{rows_from}
use Rattle.pages.proofs.Turns.{head_none}
use Rattle.pages.proofs.Given.{every_slot, every_head}
use Rattle.std.proofs.Common.{Some}

-- a slot of a sound page: its record, and that its history is sound; on an index page no record has history
pub record Good (s : List ℕ) (b : Body) (i : ℕ) : Type 0 where
  pub rec : Rec
  pub read : rec_at s b i ≡ Some rec
  pub ok : head_ok s rec ≡ true

pub slot_good : (s : List ℕ) (b : Body) → slots_ok s b ≡ true → chains_ok s b ≡ true → (i : ℕ) → i < b.elems → Good s b i
slot_good s b e f i l =
    let g = every_slot s b e i l in
    record { rec = g.0; read = g.1; ok = by (eqb b.kind 1) refl g.0 g.1 }
  where
    by : (t : Bool) → eqb b.kind 1 ≡ t → (r : Rec) → rec_at s b i ≡ Some r → head_ok s r ≡ true
    by true k r q = head_none s r (ap (λ (h : HistRef). h.count) (index_count s b i r (eqb-true _ _ k) q))
    by false k r q = every_head s b f (eqb-false b.kind 1 k) i l r q

-- one row more
pub rows_more : {A : Type 0} (f : Rec → A) (s : List ℕ) (b : Body) (k i : ℕ) (r : Rec) → rec_at s b i ≡ Some r → rows_from f s b (suc k) i ≡ f r ∷ rows_from f s b k (i + 1)
unfolding rows_from
rows_more f s b k i r e = rw e

module _ {A : Type 0} (f : Rec → A) (s : List ℕ) (b : Body) (every : (i : ℕ) → i < b.elems → (r : Rec) × (rec_at s b i ≡ Some r)) where
  pub rows-many : (n j : ℕ) → j + n ≤ b.elems → length (rows_from f s b n j) ≡ n
  unfolding rows_from
  rows-many zero j l = refl
  rows-many (suc n) j l = let g = every j (omega arith) in rw g.1 (ap suc (rows-many n (j + 1) (omega arith)))

  pub rows_drop : (i m j : ℕ) → j + i + m ≤ b.elems → drop i (rows_from f s b (i + m) j) ≡ rows_from f s b m (j + i)
  unfolding rows_from
  rows_drop zero m j l = let e : j + 0 ≡ j = omega arith in let z : 0 + m ≡ m = omega arith in rw (e, z)
  rows_drop (suc i) m j l =
      let g = every j (omega arith) in
      let e : suc i + m ≡ suc (i + m) = omega arith in
      let z : j + 1 + i ≡ j + suc i = omega arith in
      rw (e, rows_from, g.1) (rows_drop i m (j + 1) (omega arith) ∙ ap (λ (x : ℕ). rows_from f s b m x) z)

  pub rows_take : (n m j : ℕ) → j + n + m ≤ b.elems → take n (rows_from f s b (n + m) j) ≡ rows_from f s b n j
  unfolding rows_from
  rows_take zero m j l = refl
  rows_take (suc n) m j l =
      let g = every j (omega arith) in
      let e : suc n + m ≡ suc (n + m) = omega arith in
      rw (e, rows_from, g.1) (ap (λ (x : List A). f g.0 ∷ x) (rows_take n m (j + 1) (omega arith)))
