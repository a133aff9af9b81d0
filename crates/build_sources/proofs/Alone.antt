-- A list's entries lie in the list alone, whatever stands below the next free address.
-- Assumes nothing.
use mathlib.Core.Path.{◌≡◌, refl, sym, ap₂, ◌∙◌}
use mathlib.Core.List.{List, [], ◌∷◌}
use mathlib.Core.Bool.{false}
use Prim.Native.Nat.{ℕ, zero, suc, ◌<◌}
use native.Mathlib.Omega.{arith}
use Rattle.build_sources.specs.declared.Cursor.{Cursor}
use Rattle.build_sources.specs.declared.EntryAt.{EntryAt}
use Rattle.build_sources.specs.declared.EntryRead.{EntryRead}
use Rattle.build_sources.specs.declared.EntryRead.TheVariants.{Got, End, Bad}
use Rattle.build_sources.specs.Source.{Entry, next_of, left_of, entry_of, entries, well_formed}
use Rattle.build_sources.proofs.Sourced.{found, ended, odd, list_item, list_any}

-- the same entries, ending alike
record Same (l w : List ℕ) (c : Cursor) : Type 0 where
  list : entries l w c ≡ entries l [] c
  well : well_formed l w c ≡ well_formed l [] c

item_alone : (l w : List ℕ) (i : EntryAt) → i.footing ≡ false → entry_of l w i ≡ entry_of l [] i
unfolding entry_of
item_alone l w i e = rw e refl

module _ (l w : List ℕ) where
  same_by : (n : ℕ) (c : Cursor) → ((d : Cursor) → (d.source ≡ 2 → ⊥) → left_of l [] d < n → Same l w d) → (c.source ≡ 2 → ⊥) → left_of l [] c < suc n → (r : EntryRead) → next_of l [] c ≡ r → Same l w c
  same_by n c ih s h (Got i d) q =
      let e = list_any l w c s ∙ q in
      let z = list_item l [] c i d s q in
      let f = found l w c i d e in
      let g = found l [] c i d q in
      let r = ih d (λ y. s (sym z.1 ∙ y)) (omega (arith, g.falls, h)) in
      record {
        list = f.list ∙ ap₂ (λ (x : Entry) (xs : List Entry). x ∷ xs) (item_alone l w i z.0) r.list ∙ sym g.list;
        well = f.well ∙ r.well ∙ sym g.well;
      }
  same_by n c ih s h End q =
      let f = ended l w c (list_any l w c s ∙ q) in
      let g = ended l [] c q in
      record { list = f.0 ∙ sym g.0; well = f.1 ∙ sym g.1 }
  same_by n c ih s h Bad q =
      let f = odd l w c (list_any l w c s ∙ q) in
      let g = odd l [] c q in
      record { list = f.0 ∙ sym g.0; well = f.1 ∙ sym g.1 }

  same-fuel : (n : ℕ) (c : Cursor) → (c.source ≡ 2 → ⊥) → left_of l [] c < n → Same l w c
  same-fuel zero c s h = absurd (omega arith)
  same-fuel (suc n) c s h = same_by n c (same-fuel n) s h (next_of l [] c) refl

  pub list_alone : (c : Cursor) → (c.source ≡ 2 → ⊥) → entries l w c ≡ entries l [] c
  list_alone c s = (same-fuel (suc (left_of l [] c)) c s (omega arith)).list

  pub well_alone : (c : Cursor) → (c.source ≡ 2 → ⊥) → well_formed l w c ≡ well_formed l [] c
  well_alone c s = (same-fuel (suc (left_of l [] c)) c s (omega arith)).well
