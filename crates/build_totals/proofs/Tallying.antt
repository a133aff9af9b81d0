-- A tally over a source: finishing from here gives that of all entries.
-- Assumes nothing.
use mathlib.Core.Path.{◌≡◌, refl, sym, ap, ◌∙◌}
use mathlib.Core.List.{List, []}
use mathlib.Core.Bool.{Bool}
use Prim.Native.Nat.{ℕ, suc, ◌+◌, ◌-◌, ◌≤◌}
use native.Mathlib.Omega.{arith}
use lib.ListN.{length}
use Rattle.frames.specs.Limits.{max_entries, max_key, max_value}
use Rattle.build_sources.specs.declared.Cursor.{Cursor}
use Rattle.build_sources.specs.declared.EntryAt.{EntryAt}
use Rattle.build_sources.specs.Source.{entry_of, entries}
use Rattle.build_sources.proofs.Sourced.{Found}
use Rattle.build_sweep.specs.declared.Tally.{Tally}
use Rattle.build_sweep.specs.Tally.{nothing, with_one, tally_of}
use Rattle.build_sweep.specs.Bounds.{Bounded}
use Rattle.build_sweep.proofs.Tallying.{up, one-bounded, tally_nil}

pub record Tallying (l w : List ℕ) (limit p : ℕ) (c₀ c : Cursor) (t : Tally) : Type 0 where
  pub goes : tally_of limit p t (entries l w c) ≡ tally_of limit p nothing (entries l w c₀)
  pub few : length (entries l w c) ≤ max_entries
  pub bounded : Bounded t (max_entries - length (entries l w c))

pub tally_begin : (l w : List ℕ) (limit p : ℕ) (c : Cursor) → length (entries l w c) ≤ max_entries → Tallying l w limit p c c nothing
tally_begin l w limit p c k =
    record {
      goes = refl;
      few = k;
      bounded = record { heads = omega arith; olds = omega arith; sums = omega arith; counted = omega arith; remotes = omega arith; aged = omega arith; remote = omega arith };
    }

same_old : (l w : List ℕ) (i : EntryAt) → (entry_of l w i).old ≡ i.old
unfolding entry_of
same_old l w i = refl

same_kept : (l w : List ℕ) (i : EntryAt) → (entry_of l w i).kept ≡ i.kept.0
unfolding entry_of
same_kept l w i = refl

module _ (l w : List ℕ) (limit p : ℕ) (c₀ c : Cursor) (t : Tally) (h : Tallying l w limit p c₀ c t) where
  pub tally-end : entries l w c ≡ [] → (t ≡ tally_of limit p nothing (entries l w c₀)) × Bounded t max_entries
  tally-end e = (sym (tally_nil limit p t (entries l w c) e) ∙ h.goes, up t (max_entries - length (entries l w c)) max_entries (omega arith) h.bounded)

  module _ (i : EntryAt) (d : Cursor) (f : Found l w c i d) where
    pub tally_asks : (i.vlen ≤ max_value) × ((i.key.plen + i.key.klen ≤ max_key) × Bounded t max_entries)
    tally_asks = (f.placed.vsmall, (f.placed.ksmall, up t (max_entries - length (entries l w c)) max_entries (omega arith) h.bounded))

    opened : tally_of limit p t (entries l w c) ≡ tally_of limit p (with_one limit p t i.old (i.key.plen + i.key.klen) i.vlen i.kept.0) (entries l w d)
    unfolding tally_of
    opened =
        ap (tally_of limit p t) f.list
        ∙ ap (λ (b : Bool). tally_of limit p (with_one limit p t b (length (entry_of l w i).key) (length (entry_of l w i).val) (entry_of l w i).kept) (entries l w d)) (same_old l w i)
        ∙ ap (λ (x : ℕ). tally_of limit p (with_one limit p t i.old x (length (entry_of l w i).val) (entry_of l w i).kept) (entries l w d)) f.klen
        ∙ ap (λ (x : ℕ). tally_of limit p (with_one limit p t i.old (i.key.plen + i.key.klen) x (entry_of l w i).kept) (entries l w d)) f.vlen
        ∙ ap (λ (x : ℕ). tally_of limit p (with_one limit p t i.old (i.key.plen + i.key.klen) i.vlen x) (entries l w d)) (same_kept l w i)

    pub tally_turn : (r : Tally) → r ≡ with_one limit p t i.old (i.key.plen + i.key.klen) i.vlen i.kept.0 → Tallying l w limit p c₀ d r
    tally_turn r e =
        let n : length (entries l w c) ≡ suc (length (entries l w d)) = ap length f.list in
        rw e
        (record {
          goes = sym opened ∙ h.goes;
          few = omega (arith, n, h.few);
          bounded =
              up _ (max_entries - length (entries l w c) + 1) (max_entries - length (entries l w d)) (omega (arith, n, h.few))
              (one-bounded limit p t i.old (i.key.plen + i.key.klen) i.vlen i.kept.0 (max_entries - length (entries l w c)) h.bounded f.placed.ksmall f.placed.vsmall);
        })
