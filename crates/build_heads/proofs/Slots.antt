-- The head slots, one entry at a time.
-- Assumes nothing.
use mathlib.Core.Path.{◌≡◌, refl, sym, ap, ◌∙◌}
use mathlib.Core.List.{List, [], ◌∷◌, ◌++◌}
use mathlib.Core.Bool.{Bool, true, false, cond}
use Prim.Native.Nat.{ℕ, suc, ◌+◌, ◌≤◌}
use Rattle.spans.proofs.Part.{length_part}
use Rattle.build_sources.specs.Keys.{src_of}
use Rattle.build_sources.proofs.Sourced.{length-key}
use native.Mathlib.Nat.{add-zero}
use native.Mathlib.Omega.{arith}
use lib.ListN.{length}
use Rattle.spans.specs.Span.{put}
use Rattle.spans.proofs.Put.{put_nil}
use Rattle.numbers.specs.Number.{le}
use Rattle.numbers.proofs.Numbers.{length-le}
use Rattle.values.specs.Vals.{size_of}
use Rattle.build_sources.specs.declared.Cursor.{Cursor}
use Rattle.build_sources.specs.declared.EntryAt.{EntryAt}
use Rattle.build_sources.specs.Source.{Entry, Placed, entry_of, entries}
use Rattle.build_sources.proofs.Sourced.{Found}
use Rattle.build_image.specs.Sizes.{key_len, old_run}
use Rattle.build_image.specs.Image.{any, head_slots}
use Rattle.build_heads.specs.Steps.{slot_if, step_len}

-- whether an old version stands in front
pub old_none : (l w : List ℕ) (c : Cursor) → entries l w c ≡ [] → false ≡ any (old_run (entries l w c))
unfolding old_run
old_none l w c e = rw e refl

pub old-some : (l w : List ℕ) (c : Cursor) (i : EntryAt) (d : Cursor) → Found l w c i d → i.old ≡ any (old_run (entries l w c))
unfolding old_run entry_of
old-some l w c i d f = rw f.list (by_old i.old (old_run (entries l w d)))
  where
    by_old : (b : Bool) (n : ℕ) → b ≡ any (cond b (suc n) 0)
    by_old true n = refl
    by_old false n = refl

-- one slot, or none
module _ (a : List ℕ) (at off : ℕ) where
  pub slot_none : (old : Bool) → old ≡ true → (at ≡ at + length (slot_if old off)) × (a ≡ put a at (slot_if old off))
  unfolding slot_if
  slot_none old e = rw e (omega arith, sym (put_nil a at))

  pub slot-room : (old : Bool) → old ≡ false → at + length (slot_if old off) ≤ length a → at + 4 ≤ length a
  unfolding slot_if
  slot-room old e h = omega (arith, rw e at h, length-le 4 off)

  pub slot-one : (old : Bool) → old ≡ false → (a₁ : List ℕ) → a₁ ≡ put a at (le 4 off) → (at + 4 ≡ at + length (slot_if old off)) × (a₁ ≡ put a at (slot_if old off))
  unfolding slot_if
  slot-one old e a₁ q = rw e (omega (arith, length-le 4 off), q)

-- the whole list of slots, by its first entry
pub slots_step : (limit p off : ℕ) (e : Entry) (es : List Entry) → head_slots limit p off (e ∷ es) ≡ slot_if e.old off ++ head_slots limit p (off + step_len limit p e es) es
unfolding head_slots slot_if step_len
slots_step limit p off e es = go e.old (key_len p (length e.key) + size_of (any (old_run es)) limit (length e.val))
  where
    go : (b : Bool) (n : ℕ) → cond b (head_slots limit p off es) (le 4 off ++ head_slots limit p (off + n) es) ≡ cond b [] (le 4 off) ++ head_slots limit p (off + cond b 0 n) es
    go true n = ap (λ (k : ℕ). head_slots limit p k es) (sym (add-zero off))
    go false n = refl

-- ---- the step of one entry, in the words of its calls

module _ (l w : List ℕ) (i : EntryAt) (q : Placed l w i) (es : List Entry) (limit p : ℕ) where
  pub key-is : length (entry_of l w i).key ≡ i.key.plen + i.key.klen
  unfolding entry_of
  key-is = length-key (src_of l w i.footing) i.key q.pre q.rest

  pub val_is : length (entry_of l w i).val ≡ i.vlen
  unfolding entry_of
  val_is = length_part (src_of l w i.footing) i.vat i.vlen q.val

  old-is : (entry_of l w i).old ≡ i.old
  unfolding entry_of
  old-is = refl

  pub step_old : i.old ≡ true → 0 ≡ step_len limit p (entry_of l w i) es
  unfolding step_len
  step_old e = rw (old-is ∙ e) refl

  pub step_head : i.old ≡ false → (h : Bool) (x y : ℕ) → h ≡ any (old_run es) → x ≡ key_len p (i.key.plen + i.key.klen) → y ≡ size_of h limit i.vlen → x + y ≡ step_len limit p (entry_of l w i) es
  unfolding step_len
  step_head e h x y eh ex ey = rw (old-is ∙ e, key-is, val_is, ex, ey, eh) refl
