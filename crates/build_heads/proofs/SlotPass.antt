-- The pass over the head slots: storing what is still to come gives the whole.
-- Assumes nothing.
use mathlib.Core.Path.{◌≡◌, refl, sym, ap, ◌∙◌, subst}
use mathlib.Core.List.{List, [], ◌∷◌, ◌++◌}
use mathlib.Core.Bool.{Bool, true, false}
use Prim.Native.Nat.{ℕ, ◌+◌, ◌≤◌}
use native.Mathlib.Omega.{arith}
use lib.ListN.{length, take}
use Rattle.spans.specs.Span.{put}
use Rattle.spans.proofs.Writing.{Writing, begin, wrote, finished, front}
use Rattle.build_sources.specs.declared.Cursor.{Cursor}
use Rattle.build_sources.specs.declared.EntryAt.{EntryAt}
use Rattle.build_sources.specs.Source.{Entry, Placed, entry_of, entries}
use Rattle.build_sources.proofs.Sourced.{Found}
use Rattle.build_image.specs.Image.{head_slots}
use Rattle.build_heads.specs.Steps.{slot_if, step_len, steps, Long}
use Rattle.build_heads.proofs.Slots.{slots_step}

pub record Slotting (a₀ l : List ℕ) (footing : ℕ) (whole : List ℕ) (p limit : ℕ) (a : List ℕ) (c : Cursor) (to off : ℕ) : Type 0 where
  pub writing : Writing a₀ footing whole a to (head_slots limit p off (entries l (take footing a₀) c))
  pub long : Long p (entries l (take footing a₀) c)
  pub small : off + steps limit p (entries l (take footing a₀) c) ≤ 4294967295

nil_slots : (limit p off : ℕ) (es : List Entry) → es ≡ [] → head_slots limit p off es ≡ []
unfolding head_slots
nil_slots limit p off es e = rw e refl

steps_cons : (limit p : ℕ) (e : Entry) (es xs : List Entry) → xs ≡ e ∷ es → steps limit p xs ≡ step_len limit p e es + steps limit p es
unfolding steps
steps_cons limit p e es xs q = rw q refl

old_of : (l w : List ℕ) (i : EntryAt) → (entry_of l w i).old ≡ i.old
unfolding entry_of
old_of l w i = refl

module _ (a₀ l : List ℕ) (footing : ℕ) (whole : List ℕ) (p limit : ℕ) (a : List ℕ) (c : Cursor) (to off : ℕ) (h : Slotting a₀ l footing whole p limit a c to off) where
  pub slots_end : entries l (take footing a₀) c ≡ [] → a ≡ whole
  slots_end e = finished a₀ footing whole a to _ h.writing (nil_slots limit p off (entries l (take footing a₀) c) e)

  module _ (i : EntryAt) (d : Cursor) (f : Found l (take footing a₀) c i d) where
    longs : Long p (entry_of l (take footing a₀) i ∷ entries l (take footing a₀) d)
    longs = subst (λ (es : List Entry). Long p es) f.list h.long

    pub step_asks : Placed l (take footing a) i × (p ≤ i.key.plen + i.key.klen)
    step_asks = rw h.writing.same (f.placed, let q = longs.0 in omega (arith, q, f.klen))

    opened : head_slots limit p off (entries l (take footing a₀) c) ≡ slot_if i.old off ++ head_slots limit p (off + step_len limit p (entry_of l (take footing a₀) i) (entries l (take footing a₀) d)) (entries l (take footing a₀) d)
    opened =
        ap (head_slots limit p off) f.list
        ∙ slots_step limit p off (entry_of l (take footing a₀) i) (entries l (take footing a₀) d)
        ∙ ap (λ (b : Bool). slot_if b off ++ head_slots limit p (off + step_len limit p (entry_of l (take footing a₀) i) (entries l (take footing a₀) d)) (entries l (take footing a₀) d)) (old_of l (take footing a₀) i)

    pub slot_asks : (to + length (slot_if i.old off) ≤ length a) × (off ≤ 4294967295)
    slot_asks = (front a₀ footing whole a to _ (slot_if i.old off) _ h.writing opened, omega (arith, h.small))

    module _ (n : ℕ) (en : n ≡ step_len limit p (entry_of l (take footing a) i) (entries l (take footing a) d)) where
      n-is : n ≡ step_len limit p (entry_of l (take footing a₀) i) (entries l (take footing a₀) d)
      n-is = rw h.writing.same at en

      pub off_small : off + n ≤ 4294967295
      off_small = omega (arith, n-is, h.small, steps_cons limit p (entry_of l (take footing a₀) i) (entries l (take footing a₀) d) (entries l (take footing a₀) c) f.list)

      pub slots_turn : (a₁ : List ℕ) (to₁ : ℕ) → to₁ ≡ to + length (slot_if i.old off) → a₁ ≡ put a to (slot_if i.old off) → Slotting a₀ l footing whole p limit a₁ d to₁ (off + n)
      slots_turn a₁ to₁ et ea =
          record {
            writing = rw n-is (wrote a₀ footing whole a to _ (slot_if i.old off) _ a₁ to₁ h.writing opened ea et);
            long = longs.1;
            small = omega (arith, n-is, h.small, steps_cons limit p (entry_of l (take footing a₀) i) (entries l (take footing a₀) d) (entries l (take footing a₀) c) f.list);
          }
