-- An entry of a page at the nib: slot, record and remote frame, read below a mark and stored above it.
-- Assumes nothing.
use mathlib.Core.Path.{◌≡◌, sym, ap, ◌∙◌}
use mathlib.Core.List.{List, []}
use mathlib.Core.Bool.{Bool, true, false}
use Prim.Native.Nat.{ℕ, ◌+◌, ◌-◌, ◌≤◌}
use native.Mathlib.Omega.{arith}
use lib.ListN.{length, take}
use lib.Seq.{take-take}
use Rattle.spans.specs.Span.{put}
use Rattle.spans.proofs.Put.{take_put}
use Rattle.numbers.specs.Number.{le}
use Rattle.order.specs.declared.Ver.{Ver}
use Rattle.frames.specs.declared.Body.{Body}
use Rattle.values.specs.declared.HistRef.{HistRef}
use Rattle.values.specs.Keys.{ver_in}
use Rattle.build_sources.specs.Source.{Entry}
use Rattle.build_image.specs.declared.Call.{Call}
use Rattle.build_image.specs.Image.{remote_addr, remote_frame_of, old_rec, head_rec}
use Rattle.build_rows.specs.declared.Bytes.{Bytes}
use Rattle.build_rows.specs.declared.Old.{Old}
use Rattle.build_rows.specs.declared.Head.{Head}
use Rattle.build_pen.specs.declared.Nib.{Nib}
use Rattle.build_pen.specs.Nibs.{Asks, Above, drawn, nib_past}
use Rattle.build_pen.proofs.Nibbing as nibbing
use Rattle.build_page_pen.specs.Told.{told, value_told, old_told, key_told, head_told, ValueBelow, OldBelow, HeadBelow}
use Rattle.build_page_pen.proofs.Telling.{old_up, head_up, old-same, head_same, frame_alone, old-kept, head_kept}

take_again : (n : ℕ) (a : List ℕ) → take n (take n a) ≡ take n a
take_again n a = take-take n n a (omega arith)

-- any record of it
module _ (a : List ℕ) (low : ℕ) (q : Nib) (base : ℕ) (m : Call) (rec : Entry → List ℕ) (old : Bool) (key : List ℕ) (ver : Ver) (v : Bytes) (vb : ValueBelow low v) (ov : Above low q)
    (h : Asks (length a) q base m rec (told (take low a) old key ver v v.remote.0)) (a₁ : List ℕ) (e₁ : a₁ ≡ put a q.slot (le 4 (q.rec - base))) where
  abbrev e : Entry
  e = told (take low a) old key ver v v.remote.0

  below : take low a₁ ≡ take low (take low a)
  below = ap (take low) e₁ ∙ take_put low a q.slot (le 4 (q.rec - base)) ov.slot ∙ sym (take_again low a)

  module _ (x : List ℕ) (ex : x ≡ rec e) where
    rec-room : q.rec + length x ≤ length a₁
    rec-room = omega (arith, nibbing.rec_asks a q base m rec e h a₁ e₁, ap length ex)

    module _ (a₂ : List ℕ) (e₂ : a₂ ≡ put a₁ q.rec x) where
      same : take low a₂ ≡ take low a
      same = ap (take low) e₂ ∙ take_put low a₁ q.rec x ov.rec ∙ ap (take low) e₁ ∙ take_put low a q.slot (le 4 (q.rec - base)) ov.slot

      frame_is : remote_frame_of m (value_told (take low a₂) v v.remote.0) ≡ remote_frame_of m e
      frame_is = ap (λ (w : List ℕ). remote_frame_of m (value_told w v v.remote.0)) same ∙ sym (frame_alone (take low a) v old key ver m v.remote.0)

      e₂' : a₂ ≡ put a₁ q.rec (rec e)
      e₂' = e₂ ∙ ap (put a₁ q.rec) ex

      remote_asks : ValueBelow low v × ((low ≤ q.remote) × (q.remote + length (remote_frame_of m (value_told (take low a₂) v v.remote.0)) ≤ length a₂))
      remote_asks = (vb, (ov.remote, omega (arith, nibbing.remote_asks a q base m rec e h a₁ e₁ a₂ e₂', ap length frame_is)))

      done : (n g : ℕ) (a₃ : List ℕ) → n ≡ length x → g ≡ q.remote + length (remote_frame_of m (value_told (take low a₂) v v.remote.0))
          → a₃ ≡ put a₂ q.remote (remote_frame_of m (value_told (take low a₂) v v.remote.0))
          → (record { slot = q.slot + 4; rec = q.rec + n; remote = g } ≡ nib_past m q rec e) × (a₃ ≡ drawn m q base rec e a)
      done n g a₃ en eg e₃ = (
        nibbing.nib_is a q base m rec e h a₁ e₁ a₂ e₂' n g (en ∙ ap length ex) (eg ∙ ap (λ (y : List ℕ). q.remote + length y) frame_is),
        nibbing.all-drawn a q base m rec e h a₁ e₁ a₂ e₂' a₃ (e₃ ∙ ap (put a₂ q.remote) frame_is),
      )

-- an old version
module _ (a : List ℕ) (low : ℕ) (o : Old) (q : Nib) (base : ℕ) (m : Call) (ob : OldBelow low o) (ov : Above low q)
    (h : Asks (length a) q base m (old_rec m.limit q.remote) (old_told (take low a) o o.bytes.remote.0)) (a₁ : List ℕ) (e₁ : a₁ ≡ put a q.slot (le 4 (q.rec - base)))
    (to : ℕ) (et : to ≡ remote_addr q.remote o.bytes.remote.0) where
  abbrev rec_o : Entry → List ℕ
  rec_o = old_rec m.limit q.remote

  rec-is_o : old_rec m.limit to (old_told a₁ o 0) ≡ old_rec m.limit q.remote (old_told (take low a) o o.bytes.remote.0)
  rec-is_o =
      ap (λ (n : ℕ). old_rec m.limit n (old_told a₁ o 0)) et
      ∙ ap (old_rec m.limit (remote_addr q.remote o.bytes.remote.0)) (old-same a₁ (take low a) low (below a low q base m rec_o true [] (ver_in (take low a) o.ver_at) o.bytes ob.value ov h a₁ e₁) o 0 ob)
      ∙ old-kept (take low a) o.bytes true [] (ver_in (take low a) o.ver_at) m.limit q.remote o.bytes.remote.0

  pub old_asks : OldBelow q.rec o × (q.rec + length (old_rec m.limit to (old_told a₁ o 0)) ≤ length a₁)
  old_asks = (old_up low q.rec o ov.rec ob, rec-room a low q base m rec_o true [] (ver_in (take low a) o.ver_at) o.bytes ob.value ov h a₁ e₁ _ rec-is_o)

  module _ (a₂ : List ℕ) (e₂ : a₂ ≡ put a₁ q.rec (old_rec m.limit to (old_told a₁ o 0))) where
    pub old-remote : ValueBelow low o.bytes × ((low ≤ q.remote) × (q.remote + length (remote_frame_of m (value_told (take low a₂) o.bytes o.bytes.remote.0)) ≤ length a₂))
    old-remote = remote_asks a low q base m rec_o true [] (ver_in (take low a) o.ver_at) o.bytes ob.value ov h a₁ e₁ _ rec-is_o a₂ e₂

    pub old_done : (n g : ℕ) (a₃ : List ℕ) → n ≡ length (old_rec m.limit to (old_told a₁ o 0)) → g ≡ q.remote + length (remote_frame_of m (value_told (take low a₂) o.bytes o.bytes.remote.0))
        → a₃ ≡ put a₂ q.remote (remote_frame_of m (value_told (take low a₂) o.bytes o.bytes.remote.0))
        → (record { slot = q.slot + 4; rec = q.rec + n; remote = g } ≡ nib_past m q (old_rec m.limit q.remote) (old_told (take low a) o o.bytes.remote.0))
        × (a₃ ≡ drawn m q base (old_rec m.limit q.remote) (old_told (take low a) o o.bytes.remote.0) a)
    old_done = done a low q base m rec_o true [] (ver_in (take low a) o.ver_at) o.bytes ob.value ov h a₁ e₁ _ rec-is_o a₂ e₂

-- a head
module _ (a : List ℕ) (low : ℕ) (b : Body) (r : Head) (q : Nib) (base : ℕ) (m : Call) (p : ℕ) (f : HistRef) (hb : HeadBelow low b r) (pl : p ≤ b.prefix_len + r.rest_len) (ov : Above low q)
    (h : Asks (length a) q base m (head_rec m.limit p q.remote f) (head_told (take low a) b r r.bytes.remote.0)) (a₁ : List ℕ) (e₁ : a₁ ≡ put a q.slot (le 4 (q.rec - base)))
    (to : ℕ) (et : to ≡ remote_addr q.remote r.bytes.remote.0) where
  abbrev rec_h : Entry → List ℕ
  rec_h = head_rec m.limit p q.remote f

  abbrev key_h : List ℕ
  key_h = key_told (take low a) b (r.ver_at + 12) r.rest_len

  rec-is_h : head_rec m.limit p to f (head_told a₁ b r 0) ≡ head_rec m.limit p q.remote f (head_told (take low a) b r r.bytes.remote.0)
  rec-is_h =
      ap (λ (n : ℕ). head_rec m.limit p n f (head_told a₁ b r 0)) et
      ∙ ap (head_rec m.limit p (remote_addr q.remote r.bytes.remote.0) f) (head_same a₁ (take low a) low (below a low q base m rec_h false key_h (ver_in (take low a) r.ver_at) r.bytes hb.value ov h a₁ e₁) b r 0 hb)
      ∙ head_kept (take low a) r.bytes false key_h (ver_in (take low a) r.ver_at) m.limit p q.remote f r.bytes.remote.0

  pub head_asks : HeadBelow q.rec b r × ((p ≤ b.prefix_len + r.rest_len) × (q.rec + length (head_rec m.limit p to f (head_told a₁ b r 0)) ≤ length a₁))
  head_asks = (head_up low q.rec b r ov.rec hb, (pl, rec-room a low q base m rec_h false key_h (ver_in (take low a) r.ver_at) r.bytes hb.value ov h a₁ e₁ _ rec-is_h))

  module _ (a₂ : List ℕ) (e₂ : a₂ ≡ put a₁ q.rec (head_rec m.limit p to f (head_told a₁ b r 0))) where
    pub head_remote : ValueBelow low r.bytes × ((low ≤ q.remote) × (q.remote + length (remote_frame_of m (value_told (take low a₂) r.bytes r.bytes.remote.0)) ≤ length a₂))
    head_remote = remote_asks a low q base m rec_h false key_h (ver_in (take low a) r.ver_at) r.bytes hb.value ov h a₁ e₁ _ rec-is_h a₂ e₂

    pub head_done : (n g : ℕ) (a₃ : List ℕ) → n ≡ length (head_rec m.limit p to f (head_told a₁ b r 0)) → g ≡ q.remote + length (remote_frame_of m (value_told (take low a₂) r.bytes r.bytes.remote.0))
        → a₃ ≡ put a₂ q.remote (remote_frame_of m (value_told (take low a₂) r.bytes r.bytes.remote.0))
        → (record { slot = q.slot + 4; rec = q.rec + n; remote = g } ≡ nib_past m q (head_rec m.limit p q.remote f) (head_told (take low a) b r r.bytes.remote.0))
        × (a₃ ≡ drawn m q base (head_rec m.limit p q.remote f) (head_told (take low a) b r r.bytes.remote.0) a)
    head_done = done a low q base m rec_h false key_h (ver_in (take low a) r.ver_at) r.bytes hb.value ov h a₁ e₁ _ rec-is_h a₂ e₂
