-- An index page drawn: what stands around its slots and records is stored one behind the other, and the slots and records are left.
-- Assumes nothing.
use mathlib.Core.Path.{◌≡◌, refl, sym, ap, ◌∙◌}
use mathlib.Core.List.{List, [], ◌∷◌, ◌++◌, append-nil}
use Prim.Native.Nat.{ℕ, ◌+◌, ◌-◌, ◌*◌, ◌≤◌}
use native.Mathlib.Omega.{arith}
use lib.ListN.{length, take, replicate}
use Rattle.spans.specs.Span.{put}
use Rattle.spans.proofs.Put.{length-put, take_put}
use Rattle.frames.specs.Layout.{box_len, base_len, slots_at, frame_len}
use Rattle.frames.specs.Limits.{max_entries, max_size}
use Rattle.build_sources.specs.Source.{Entry}
use Rattle.build_image.specs.declared.Call.{Call}
use Rattle.build_image.specs.Sizes.{pad}
use Rattle.build_image.specs.Image.{index_sums, index_slots, index_recs, index_image, Borders}
use Rattle.build_image.proofs.Lengths.{frame-least}
use Rattle.build_image.proofs.Index.{length_index_slots, length_index_recs, length_index}
use Rattle.build_bounds.specs.declared.Boundaries.{Boundaries}
use Rattle.build_bounds.specs.Boundaries.{Within, BothWithin, boundary_bytes, bounds_of}
use Rattle.build_bounds.proofs.Laws.{length_boundary}
use Rattle.build_pen.specs.Stretches.{Stretch, stretch, draws, Rising, Drawing}
use Rattle.build_pen.proofs.Drawn.{drew}
use Rattle.build_pen.proofs.Cutting.{draw_begin, cut, gone}
use Rattle.build_index.specs.Parts.{index_head, Ready}
use Rattle.build_index.specs.Laid.{index_left, Laid, fixed_on, Fixes}
use Rattle.build_index.proofs.Penning.{Penning}
use Rattle.build_index.proofs.Page.{length_head, page_open, size_open}

-- ---- one store behind the other

module _ (a : List ℕ) (footing at : ℕ) (m : Call) (n size : ℕ) (lo hi : List ℕ) (e : Boundaries) (f : Fixes (length a) footing at e n size) (w : BothWithin lo hi (take footing a) e) where
  abbrev x : ℕ
  x = at + slots_at + 4 * n

  abbrev y : ℕ
  y = x + e.lo.len

  abbrev z : ℕ
  z = at + (box_len + size)

  abbrev head : List ℕ
  head = index_head m n size e.sibling.0 e.lo.len e.hi.len e.prefix

  pub fixed_fits : (y + e.hi.len ≤ z) × (z ≤ at + frame_len size)
  fixed_fits = (omega (arith, f.first), omega (arith, frame-least size))

  pub head_asks : (at + slots_at ≤ length a) × ((n ≤ max_entries) × ((size ≤ max_size) × ((e.lo.len ≤ size) × (e.hi.len ≤ size) × (e.prefix ≤ size))))
  head_asks = (omega (arith, fixed_fits, f.end), (f.few, (f.small, (omega (arith, f.first), omega (arith, f.first), omega (arith, f.first, f.shared)))))

  module _ (a₁ : List ℕ) (e₁ : a₁ ≡ put a at (index_head m n size e.sibling.0 e.lo.len e.hi.len e.prefix)) where
    same₁ : take footing a₁ ≡ take footing a
    same₁ = ap (take footing) e₁ ∙ take_put footing a at head f.over

    long₁ : length a₁ ≡ length a
    long₁ = ap length e₁ ∙ length-put a at head

    pub lo_asks : (footing ≤ x) × ((x + e.lo.len ≤ length a₁) × Within lo (take footing a₁) e.lo)
    lo_asks = (omega (arith, f.over), (omega (arith, long₁, fixed_fits, f.end), rw same₁ w.footing))

    module _ (a₂ : List ℕ) (e₂ : a₂ ≡ put a₁ x (boundary_bytes lo (take footing a₁) e.lo)) where
      f₂ : a₂ ≡ put a₁ x (boundary_bytes lo (take footing a) e.lo)
      f₂ = rw same₁ at e₂

      same₂ : take footing a₂ ≡ take footing a
      same₂ = ap (take footing) f₂ ∙ take_put footing a₁ x (boundary_bytes lo (take footing a) e.lo) (omega (arith, f.over)) ∙ same₁

      long₂ : length a₂ ≡ length a
      long₂ = ap length f₂ ∙ length-put a₁ x (boundary_bytes lo (take footing a) e.lo) ∙ long₁

      pub hi_asks : (footing ≤ y) × ((y + e.hi.len ≤ length a₂) × Within hi (take footing a₂) e.hi)
      hi_asks = (omega (arith, f.over), (omega (arith, long₂, fixed_fits, f.end), rw same₂ w.high))

      module _ (a₃ : List ℕ) (e₃ : a₃ ≡ put a₂ y (boundary_bytes hi (take footing a₂) e.hi)) (k : ℕ) (ek : k ≡ frame_len size) where
        f₃ : a₃ ≡ put a₂ y (boundary_bytes hi (take footing a) e.hi)
        f₃ = rw same₂ at e₃

        pub zeros_fit : z + (at + k - z) ≤ length a₃
        zeros_fit = omega (arith, ap length f₃, length-put a₂ y (boundary_bytes hi (take footing a) e.hi), long₂, ek, fixed_fits, f.end)

        pub fixed_done : (a₄ : List ℕ) → a₄ ≡ put a₃ z (replicate (at + k - z) 0)
            → a₄ ≡ fixed_on m at n size e (boundary_bytes lo (take footing a) e.lo) (boundary_bytes hi (take footing a) e.hi) a
        fixed_done a₄ e₄ =
            e₄ ∙ ap (λ (j : ℕ). put a₃ z (replicate (at + j - z) 0)) ek
            ∙ ap (λ (b : List ℕ). put b z (replicate (at + frame_len size - z) 0))
            (f₃ ∙ ap (λ (b : List ℕ). put b y (boundary_bytes hi (take footing a) e.hi)) (f₂ ∙ ap (λ (b : List ℕ). put b x (boundary_bytes lo (take footing a) e.lo)) e₁))

-- ---- the page of some entries

module _ (a : List ℕ) (footing at : ℕ) (m : Call) (lo hi : List ℕ) (e : Boundaries) (es : List Entry) (n size : ℕ) (r : Ready a footing at lo hi e es n size) where
  abbrev b : Borders
  b = bounds_of lo hi (take footing a) e

  abbrev image : List ℕ
  image = put a at (index_image m b es)

  abbrev s : ℕ
  s = at + slots_at

  abbrev rec : ℕ
  rec = s + 4 * n + e.lo.len + e.hi.len

  abbrev base : ℕ
  base = at + box_len

  abbrev q : ℕ
  q = at + (box_len + size)

  lo-long : length (boundary_bytes lo (take footing a) e.lo) ≡ e.lo.len
  lo-long = length_boundary lo (take footing a) e.lo r.inside.footing

  hi-long : length (boundary_bytes hi (take footing a) e.hi) ≡ e.hi.len
  hi-long = length_boundary hi (take footing a) e.hi r.inside.high

  sized : size ≡ base_len + 4 * n + e.lo.len + e.hi.len + index_sums e.prefix es
  sized = omega (arith, size_open b es size r.whole, r.count, lo-long, hi-long)

  pub fixes : Fixes (length a) footing at e n size
  fixes = record { over = r.over; few = r.few; small = r.small; first = omega (arith, sized); shared = r.shared; end = r.room }

  pub page-fits : (rec ≤ length a) × (at + (box_len + size) ≤ length a)
  page-fits = (omega (arith, sized, r.room, frame-least size), omega (arith, r.room, frame-least size))

  abbrev slots : List ℕ
  slots = index_slots e.prefix (rec - base) es

  abbrev recs : List ℕ
  recs = index_recs e.prefix es

  abbrev rounding : List ℕ
  rounding = replicate (at + frame_len size - q) 0

  pad-is : pad size ≡ rounding ++ []
  unfolding pad
  pad-is = let k : frame_len size - (box_len + size) ≡ at + frame_len size - q = omega (arith, frame-least size) in ap (λ (j : ℕ). replicate j 0) k ∙ sym (append-nil rounding)

  bytes : index_image m b es ≡ index_head m n size e.sibling.0 e.lo.len e.hi.len e.prefix ++ (slots ++ (b.lo ++ (b.hi ++ (recs ++ pad size))))
  bytes = page_open m b es n size e.lo.len e.hi.len (rec - base) r.count r.whole (sym lo-long) (sym hi-long) (omega arith)

  begin : Drawing a footing image a (stretch at (index_image m b es) ∷ []) (length a)
  begin = draw_begin a footing at (index_image m b es) r.over (rw (length_index m b es, ← r.whole) r.room)

  module _ (a₁ : List ℕ) (e₁ : a₁ ≡ fixed_on m at n size e (boundary_bytes lo (take footing a) e.lo) (boundary_bytes hi (take footing a) e.hi) a) where
    abbrev v₁ : List ℕ
    v₁ = put a at (index_head m n size e.sibling.0 e.lo.len e.hi.len e.prefix)

    abbrev v₂ : List ℕ
    v₂ = put v₁ (s + 4 * n) b.lo

    abbrev v₃ : List ℕ
    v₃ = put v₂ (s + 4 * n + e.lo.len) b.hi

    d₁ : Drawing a footing image v₁ (stretch s (slots ++ (b.lo ++ (b.hi ++ (recs ++ pad size)))) ∷ []) (length a)
    d₁ =
        drew a footing image a [] at _ (index_head m n size e.sibling.0 e.lo.len e.hi.len e.prefix) (slots ++ (b.lo ++ (b.hi ++ (recs ++ pad size)))) [] (length a) v₁ s begin bytes refl
        (ap (λ (j : ℕ). at + j) (sym (length_head m n size e.sibling.0 e.lo.len e.hi.len e.prefix)))

    d₂ : Drawing a footing image v₁ (stretch s slots ∷ stretch (s + 4 * n) (b.lo ++ (b.hi ++ (recs ++ pad size))) ∷ []) (length a)
    d₂ = cut a footing image v₁ [] s _ slots (b.lo ++ (b.hi ++ (recs ++ pad size))) [] (length a) (s + 4 * n) d₁ refl (omega (arith, length_index_slots e.prefix (rec - base) es, r.count))

    abbrev fore : List Stretch
    fore = stretch s slots ∷ []

    d₃ : Drawing a footing image v₂ (fore ++ stretch (s + 4 * n + e.lo.len) (b.hi ++ (recs ++ pad size)) ∷ []) (length a)
    d₃ = drew a footing image v₁ fore (s + 4 * n) _ b.lo (b.hi ++ (recs ++ pad size)) [] (length a) v₂ (s + 4 * n + e.lo.len) d₂ refl refl (omega (arith, lo-long))

    d₄ : Drawing a footing image v₃ (fore ++ stretch rec (recs ++ pad size) ∷ []) (length a)
    d₄ = drew a footing image v₂ fore (s + 4 * n + e.lo.len) _ b.hi (recs ++ pad size) [] (length a) v₃ rec d₃ refl refl (omega (arith, hi-long))

    d₅ : Drawing a footing image v₃ (fore ++ stretch rec recs ∷ stretch q (pad size) ∷ []) (length a)
    d₅ = cut a footing image v₃ fore rec _ recs (pad size) [] (length a) q d₄ refl (omega (arith, length_index_recs e.prefix es, sized))

    d₆ : Drawing a footing image a₁ ((fore ++ stretch rec recs ∷ []) ++ stretch (q + length rounding) [] ∷ []) (length a)
    d₆ = drew a footing image v₃ (fore ++ stretch rec recs ∷ []) q _ rounding [] [] (length a) a₁ (q + length rounding) d₅ pad-is e₁ refl

    -- slots and records are left
    pub fixed_left : Drawing a footing image a₁ (index_left s rec base e.prefix es) (length a)
    fixed_left = gone a footing image a₁ (fore ++ stretch rec recs ∷ []) (q + length rounding) [] [] (length a) d₆ refl

    pub fixed_pens : Penning a footing image base e.prefix a₁ s rec es (length a)
    fixed_pens = record { drawing = fixed_left; above = omega arith; small = omega (arith, sized, r.small); keys = r.long }

    pub pen_asks : Laid (length a₁) 0 s rec base e.prefix es
    pen_asks = record { order = raised fixed_left.order fixed_left.room; above = omega arith; small = omega (arith, sized, r.small); keys = r.long }
      where
        raised : Rising footing (index_left s rec base e.prefix es) (length a) → length a ≤ length a₁ → Rising 0 (index_left s rec base e.prefix es) (length a₁)
        raised (i, (j, k)) h = (omega arith, (j, omega (arith, k, h)))

    pub page_done : (a₂ : List ℕ) → a₂ ≡ draws a₁ (index_left s rec base e.prefix es) → a₂ ≡ image
    page_done a₂ e₂ = e₂ ∙ fixed_left.goes
