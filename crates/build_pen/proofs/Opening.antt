-- A history page opened: headers and rounding are stored at once, its slots, records and remote frames are left.
-- Assumes nothing.
use mathlib.Core.Path.{◌≡◌, refl, sym, ap}
use mathlib.Core.List.{List, [], ◌∷◌, ◌++◌}
use Prim.Native.Nat.{ℕ, ◌+◌, ◌-◌, ◌*◌, ◌≤◌}
use native.Mathlib.Omega.{arith}
use lib.ListN.{length, replicate, length-replicate}
use Rattle.spans.specs.Span.{put}
use Rattle.frames.specs.Layout.{box_len, base_len, slots_at, frame_len}
use Rattle.frames.specs.Limits.{max_budget}
use Rattle.build_paging.specs.Cuts.{total}
use Rattle.build_sources.specs.Source.{Entry}
use Rattle.build_image.specs.declared.Call.{Call}
use Rattle.build_image.specs.Sizes.{pad, costs_of}
use Rattle.build_image.specs.Image.{old_slots, old_recs, remote_frames, hist_head, hist_size, hist_page}
use Rattle.build_image.proofs.Lengths.{frame-least, length_hist_head, length-slots, length-recs, costs_many}
use Rattle.build_pen.specs.declared.Nib.{Nib}
use Rattle.build_pen.specs.Stretches.{Stretch, stretch, Drawing}
use Rattle.build_pen.proofs.Drawn.{drew}
use Rattle.build_pen.proofs.Cutting.{cut}
use Rattle.build_pen.proofs.Olding.{Olding}

size_open : (limit : ℕ) (es : List Entry) (s : ℕ) → s ≡ hist_size limit es → s ≡ base_len + total (costs_of limit es)
unfolding hist_size
size_open limit es s e = e

page_open : (m : Call) (at link : ℕ) (es : List Entry) (n s : ℕ) → n ≡ length es → s ≡ hist_size m.limit es
    → hist_page m at link es ≡ hist_head m link n s ++ (old_slots m.limit (base_len + 4 * n) es ++ (old_recs m.limit (at + frame_len s) es ++ (pad s ++ remote_frames m es)))
unfolding hist_page
page_open m at link es n s e₁ e₂ = rw (e₁, e₂) refl

-- where a page of n old versions and this size has its three stretches
abbrev pub nib_at : ℕ → ℕ → ℕ → Nib
nib_at at n x = record { slot = at + slots_at; rec = at + slots_at + 4 * n; remote = at + x }

module _ (a₀ : List ℕ) (low : ℕ) (whole a : List ℕ) (at : ℕ) (m : Call) (link : ℕ) (es : List Entry) (n s : ℕ) (en : n ≡ length es) (es_size : s ≡ hist_size m.limit es) (small : s ≤ max_budget)
    (rest : List ℕ) (tail : List Stretch) (end : ℕ) (z : List ℕ) (h : Drawing a₀ low whole a (stretch at z ∷ tail) end) (ez : z ≡ hist_page m at link es ++ rest) (x : ℕ) (ex : x ≡ frame_len s)
    (to : ℕ) (eto : to ≡ at + length (hist_page m at link es)) where
  abbrev slots : List ℕ
  slots = old_slots m.limit (base_len + 4 * n) es

  abbrev recs : List ℕ
  recs = old_recs m.limit (at + frame_len s) es

  k0 : Drawing a₀ low whole a (stretch at (hist_page m at link es) ∷ stretch to rest ∷ tail) end
  k0 = cut a₀ low whole a [] at z _ rest tail end to h ez eto

  module _ (a₁ : List ℕ) (e₁ : a₁ ≡ put a at (hist_head m link n s)) where
    k1 : Drawing a₀ low whole a₁ (stretch (at + slots_at) (slots ++ (recs ++ (pad s ++ remote_frames m es))) ∷ stretch to rest ∷ tail) end
    k1 = drew a₀ low whole a [] at _ (hist_head m link n s) _ (stretch to rest ∷ tail) end a₁ (at + slots_at) k0 (page_open m at link es n s en es_size) e₁ (omega (arith, length_hist_head m link n s))

    k2 : Drawing a₀ low whole a₁ (stretch (at + slots_at) slots ∷ stretch (at + slots_at + 4 * n) (recs ++ (pad s ++ remote_frames m es)) ∷ stretch to rest ∷ tail) end
    k2 = cut a₀ low whole a₁ [] (at + slots_at) _ slots _ (stretch to rest ∷ tail) end (at + slots_at + 4 * n) k1 refl (omega (arith, length-slots m.limit (base_len + 4 * n) es, en))

    k3 : Drawing a₀ low whole a₁ (stretch (at + slots_at) slots ∷ stretch (at + slots_at + 4 * n) recs ∷ stretch (at + (box_len + s)) (pad s ++ remote_frames m es) ∷ stretch to rest ∷ tail) end
    k3 =
        cut a₀ low whole a₁ (stretch (at + slots_at) slots ∷ []) (at + slots_at + 4 * n) _ recs _ (stretch to rest ∷ tail) end (at + (box_len + s)) k2 refl
        (omega (arith, length-recs m.limit (at + frame_len s) es, en, size_open m.limit es s es_size))

    pads : pad s ≡ replicate (at + x - (at + (box_len + s))) 0
    unfolding pad
    pads =
        let e : frame_len s - (box_len + s) ≡ at + x - (at + (box_len + s)) = omega (arith, ex, frame-least s) in
        ap (λ (y : ℕ). replicate y 0) e

    module _ (a₂ : List ℕ) (e₂ : a₂ ≡ put a₁ (at + (box_len + s)) (replicate (at + x - (at + (box_len + s))) 0)) where
      k4 : Drawing a₀ low whole a₂ (stretch (at + slots_at) slots ∷ stretch (at + slots_at + 4 * n) recs ∷ stretch (at + x) (remote_frames m es) ∷ stretch to rest ∷ tail) end
      k4 =
          drew a₀ low whole a₁ (stretch (at + slots_at) slots ∷ stretch (at + slots_at + 4 * n) recs ∷ []) (at + (box_len + s)) _ (replicate (at + x - (at + (box_len + s))) 0) _
          (stretch to rest ∷ tail) end a₂ (at + x) k3 (ap (λ (y : List ℕ). y ++ remote_frames m es) pads) e₂ (omega (arith, ex, frame-least s, length-replicate {A = ℕ} (at + x - (at + (box_len + s))) 0))

      off_is : base_len + 4 * n ≡ at + slots_at + 4 * n - (at + box_len)
      off_is = omega arith

      pub page-begun : Olding a₀ low whole m (at + box_len) (stretch to rest ∷ tail) end a₂ (nib_at at n x) es
      page-begun =
          record {
            drawing = rw (off_is, sym ex) at k4;
            above = omega arith;
            small = omega (arith, small, size_open m.limit es s es_size, en, costs_many m.limit es);
          }
