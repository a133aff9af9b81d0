-- Old versions at the pen: slots, records and remote frames that are left, by `Drawing` with three stretches and what lies behind them.
-- Assumes nothing.
use mathlib.Core.Path.{◌≡◌, refl, sym, ap}
use mathlib.Core.List.{List, [], ◌∷◌, ◌++◌}
use Prim.Native.Nat.{ℕ, ◌+◌, ◌-◌, ◌≤◌}
use native.Mathlib.Omega.{arith}
use lib.ListN.{length}
use Rattle.numbers.specs.Number.{le}
use Rattle.build_paging.specs.Cuts.{total}
use Rattle.build_sources.specs.Source.{Entry}
use Rattle.build_image.specs.declared.Call.{Call}
use Rattle.build_image.specs.Sizes.{remote_len, val_len, cost, costs_of}
use Rattle.build_image.specs.Image.{remote_frame_of, remote_frames, old_rec, old_recs, old_slots}
use Rattle.build_image.proofs.Lengths.{length-old, length-remote_of}
use Rattle.build_pen.specs.declared.Nib.{Nib}
use Rattle.build_pen.specs.Stretches.{Stretch, stretch, Drawing}
use Rattle.build_pen.specs.Nibs.{Asks, Above, drawn, nib_past, olds_left}
use Rattle.build_pen.proofs.Nibbing.{nib_asks, nib_above, nib_turn}

-- one entry of each
slots_cons : (limit off : ℕ) (e : Entry) (es : List Entry) → old_slots limit off (e ∷ es) ≡ le 4 off ++ old_slots limit (off + (12 + val_len limit e)) es
unfolding old_slots
slots_cons limit off e es = refl

recs_cons : (limit remote : ℕ) (e : Entry) (es : List Entry) → old_recs limit remote (e ∷ es) ≡ old_rec limit remote e ++ old_recs limit (remote + remote_len limit (length e.val) e.kept) es
unfolding old_recs
recs_cons limit remote e es = refl

frames_cons : (m : Call) (e : Entry) (es : List Entry) → remote_frames m (e ∷ es) ≡ remote_frame_of m e ++ remote_frames m es
unfolding remote_frames
frames_cons m e es = refl

costs_cons : (limit : ℕ) (e : Entry) (es : List Entry) → total (costs_of limit (e ∷ es)) ≡ 12 + val_len limit e + 4 + total (costs_of limit es)
unfolding costs_of cost total
costs_cons limit e es = refl

pub none : (m : Call) (off remote : ℕ) (es : List Entry) → es ≡ [] → (old_slots m.limit off es ≡ []) × ((old_recs m.limit remote es ≡ []) × (remote_frames m es ≡ []))
unfolding old_slots old_recs remote_frames
none m off remote es e = rw e (refl, (refl, refl))

pub record Olding (a₀ : List ℕ) (low : ℕ) (whole : List ℕ) (m : Call) (base : ℕ) (tail : List Stretch) (end : ℕ) (a : List ℕ) (q : Nib) (es : List Entry) : Type 0 where
  pub drawing : Drawing a₀ low whole a (olds_left m q base es tail) end
  pub above : base ≤ q.rec
  pub small : q.rec - base + total (costs_of m.limit es) ≤ 4294967295

module _ (a₀ : List ℕ) (low : ℕ) (whole : List ℕ) (m : Call) (base : ℕ) (tail : List Stretch) (end : ℕ) (a : List ℕ) (q : Nib) (e : Entry) (rest : List Entry)
    (h : Olding a₀ low whole m base tail end a q (e ∷ rest)) where
  abbrev off : ℕ
  off = q.rec - base + (12 + val_len m.limit e)

  abbrev next : ℕ
  next = q.remote + remote_len m.limit (length e.val) e.kept

  d0 : Drawing a₀ low whole a
      (stretch q.slot (le 4 (q.rec - base) ++ old_slots m.limit off rest) ∷ stretch q.rec (old_rec m.limit q.remote e ++ old_recs m.limit next rest) ∷ stretch q.remote (remote_frame_of m e ++ remote_frames m rest) ∷ tail) end
  d0 = rw (slots_cons, recs_cons, frames_cons) at h.drawing

  pub olds_asks : Asks (length a) q base m (old_rec m.limit q.remote) e
  olds_asks = nib_asks a₀ low whole a [] [] tail end q base m (old_rec m.limit q.remote) e _ _ _ d0 h.above (omega (arith, h.small))

  pub olds-above : Above low q
  olds-above = nib_above a₀ low whole a [] [] tail end q base m (old_rec m.limit q.remote) e _ _ _ d0

  off_is : off ≡ q.rec + length (old_rec m.limit q.remote e) - base
  off_is = omega (arith, h.above, length-old m.limit q.remote e)

  next-is : next ≡ q.remote + length (remote_frame_of m e)
  next-is = ap (λ (n : ℕ). q.remote + n) (sym (length-remote_of m e))

  pub olds_turn : (a' : List ℕ) (q' : Nib) → q' ≡ nib_past m q (old_rec m.limit q.remote) e → a' ≡ drawn m q base (old_rec m.limit q.remote) e a → Olding a₀ low whole m base tail end a' q' rest
  olds_turn a' q' eq ea =
      rw eq
      (record {
        drawing = rw (off_is, next-is) at (nib_turn a₀ low whole a [] [] tail end q base m (old_rec m.limit q.remote) e _ _ _ d0 a' ea);
        above = omega (arith, h.above);
        small = omega (arith, h.small, h.above, length-old m.limit q.remote e, costs_cons m.limit e rest);
      })
