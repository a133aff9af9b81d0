-- The children of an index page that lies below the arena's written part, written by the laws of `Penning`.
-- Assumes nothing.
use mathlib.Core.Path.{◌≡◌, refl, sym, ap, ap₂, ◌∙◌}
use mathlib.Core.List.{List, ◌++◌}
use mathlib.Core.Bool.{true}
use Prim.Native.Nat.{ℕ, ◌+◌, ◌-◌, ◌*◌, ◌≤◌, ◌<◌}
use native.Mathlib.Omega.{arith}
use lib.ListN.{length, take, drop, length-append, length-drop}
use lib.Seq.{length-take-le, take-take}
use Rattle.spans.specs.Span.{part, put, Stored}
use Rattle.spans.proofs.Part.{length_part}
use Rattle.numbers.specs.Number.{le}
use Rattle.lengths.specs.Leb128.{uleb}
use Rattle.frames.specs.declared.Body.{Body}
use Rattle.frames.specs.Layout.{box_len, base_len, slots_at}
use Rattle.pages.specs.Meaning.{prefix_of}
use Rattle.build_sources.specs.Source.{Entry}
use Rattle.build_image.specs.declared.Call.{Call}
use Rattle.build_image.specs.Image.{index_sums, index_image}
use Rattle.build_bounds.specs.declared.Boundaries.{Boundaries}
use Rattle.build_bounds.specs.Boundaries.{boundary_bytes, bounds_of}
use Rattle.build_pen.specs.Stretches.{draws}
use Rattle.build_pen.proofs.Cutting.{drawing_low}
use Rattle.law_rows.specs.Rows.{index_entries}
use Rattle.build_rows.specs.declared.Child.{Child}
use Rattle.build_rows.specs.Judged.{Judged, ChildAt}
use Rattle.build_rows.proofs.Rows.{slots_end}
use Rattle.build_page_pen.specs.Told.{key_told, KeyBelow}
use Rattle.build_page_pen.proofs.Telling.{key_up, key-same}
use Rattle.build_index.specs.Parts.{rec_of, index_rec, Ready}
use Rattle.build_index.specs.Laid.{index_left, Laid, fixed_on}
use Rattle.build_index.proofs.Passes.{sums_nil}
use Rattle.build_index.proofs.Penning as penning
use Rattle.build_index.proofs.Penning.{Penning, pen_begin, pen_end, pen_key, sums_are, off_small, slot-room, rec-over, footing-same, rec-room, pen_turn, pen_laid, part-laid, part_turn}
use Rattle.build_index.proofs.Children.{Here, child-here, count-is, count-all}
use Rattle.build_index.proofs.Fixed.{fixed_pens}

-- ---- one record

module _ (a : List ℕ) (b : Body) (x : Child) (at p : ℕ) (kb : KeyBelow at b x.rest_at x.rest_len) (pl : p ≤ b.prefix_len + x.rest_len)
    (room : at + length (rec_of (drop p (key_told a b x.rest_at x.rest_len)) x.page.0) ≤ length a) where
  abbrev key : List ℕ
  key = key_told a b x.rest_at x.rest_len

  abbrev n : ℕ
  n = b.prefix_len + x.rest_len - p

  key-long : length (key_told a b x.rest_at x.rest_len) ≡ b.prefix_len + x.rest_len
  unfolding prefix_of
  key-long =
      length-append (part a (b.at + base_len + 4 * b.elems) b.prefix_len) (part a x.rest_at x.rest_len)
      ∙ ap₂ (λ (i j : ℕ). i + j) (length_part a (b.at + base_len + 4 * b.elems) b.prefix_len (omega (arith, kb.prefix, room))) (length_part a x.rest_at x.rest_len (omega (arith, kb.all, room)))

  rest-long : length (drop p key) ≡ n
  rest-long = length-drop p key ∙ ap (λ (j : ℕ). j - p) key-long

  module _ (k : ℕ) (a₁ : List ℕ) (st : Stored true a at (uleb (b.prefix_len + x.rest_len - p)) k a₁) where
    pub child_fits : at + k + (b.prefix_len + x.rest_len - p) + 8 ≤ length a
    child_fits = penning.rec-fits a (drop p key) n x.page.0 at rest-long room k a₁ st

    pub rest_asks : KeyBelow (at + k) b x.rest_at x.rest_len × ((p ≤ b.prefix_len + x.rest_len) × (at + k + (b.prefix_len + x.rest_len - p) ≤ length a₁))
    rest_asks = (key_up at (at + k) b x.rest_at x.rest_len (omega arith) kb, (pl, penning.rest-room a (drop p key) n x.page.0 at rest-long room k a₁ st))

    module _ (a₂ : List ℕ) (e₂ : a₂ ≡ put a₁ (at + k) (drop p (key_told a₁ b x.rest_at x.rest_len))) where
      f₂ : a₂ ≡ put a₁ (at + k) (drop p key)
      f₂ = e₂ ∙ ap (λ (y : List ℕ). put a₁ (at + k) (drop p y)) (key-same a₁ a at (penning.rec-same a (drop p key) n x.page.0 at rest-long room k a₁ st) b x.rest_at x.rest_len kb)

      pub child-id : at + k + (b.prefix_len + x.rest_len - p) + 8 ≤ length a₂
      child-id = penning.id-room a (drop p key) n x.page.0 at rest-long room k a₁ st a₂ f₂

      pub child-end : (a₃ : List ℕ) → a₃ ≡ put a₂ (at + k + (b.prefix_len + x.rest_len - p)) (le 8 x.page.0)
          → (at + k + (b.prefix_len + x.rest_len - p) + 8 ≡ at + length (rec_of (drop p (key_told a b x.rest_at x.rest_len)) x.page.0))
          × (a₃ ≡ put a at (rec_of (drop p (key_told a b x.rest_at x.rest_len)) x.page.0))
      child-end = penning.rec-end a (drop p key) n x.page.0 at rest-long room k a₁ st a₂ f₂

-- ---- the loop over a page

-- past is where the last record ends
pub record Walking (a₀ : List ℕ) (low : ℕ) (whole : List ℕ) (b : Body) (end base p past : ℕ) (a : List ℕ) (i slot rec : ℕ) : Type 0 where
  pub penning : Penning a₀ low whole base p a slot rec (index_entries (take low a₀) b (end - i) i) (length a₀)
  pub ends : rec + index_sums p (index_entries (take low a₀) b (end - i) i) ≡ past

pub walk_begin : (a : List ℕ) (low : ℕ) (b : Body) (from end slot rec base p : ℕ) → Laid (length a) low slot rec base p (index_entries (take low a) b (end - from) from)
    → Walking a low (draws a (index_left slot rec base p (index_entries (take low a) b (end - from) from))) b end base p (rec + index_sums p (index_entries (take low a) b (end - from) from)) a from slot rec
walk_begin a low b from end slot rec base p h = record { penning = pen_begin a low slot rec base p (index_entries (take low a) b (end - from) from) h; ends = refl }

module _ (a₀ : List ℕ) (low : ℕ) (whole : List ℕ) (b : Body) (end base p past : ℕ) (a : List ℕ) (i slot rec : ℕ) (h : Walking a₀ low whole b end base p past a i slot rec) where
  abbrev w : List ℕ
  w = take low a₀

  abbrev es : List Entry
  es = index_entries (take low a₀) b (end - i) i

  pub walk_end : end ≤ i → (rec ≡ past) × (a ≡ whole)
  walk_end l =
      let z = slots_end _ w b end i l in
      (omega (arith, h.ends, sums_nil p es z), pen_end a₀ low whole base p a slot rec es (length a₀) h.penning z)

  -- the footing is as it was
  pub walk-low : low ≤ length a
  walk-low = drawing_low a₀ low whole a (index_left slot rec base p es) (length a₀) h.penning.drawing

  pub walk-judged : Judged (take low a₀) b 1 → Judged (take low a) b 1
  walk-judged g = rw h.penning.drawing.same g

  module _ (g : Judged (take low a₀) b 1) (u : end ≤ b.elems) (l : i < end) (x : Child) (cx : ChildAt (take low a) b i x) where
    z : Here w b end i x
    z = child-here w b end i x g u l (rw h.penning.drawing.same at cx)

    abbrev fs : List Entry
    fs = index_entries (take low a₀) b (end - (i + 1)) (i + 1)

    pub off_fits : (base ≤ rec) × (rec - base ≤ 4294967295)
    off_fits = (h.penning.above, off_small a₀ low whole base p a slot rec es (length a₀) h.penning z.entry fs z.list)

    pub slot-fits : slot + 4 ≤ length a
    slot-fits = slot-room a₀ low whole base p a slot rec es (length a₀) h.penning z.entry fs z.list

    long_w : length w ≡ low
    long_w = length-take-le low a₀ (omega (arith, walk-low, h.penning.drawing.long))

    below : KeyBelow low b x.rest_at x.rest_len
    below = record { prefix = omega (arith, z.prefix, long_w); all = omega (arith, z.rest, long_w); small = z.small }

    module _ (a₁ : List ℕ) (e₁ : a₁ ≡ put a slot (le 4 (rec - base))) where
      same : take low a₁ ≡ take low w
      same = footing-same a₀ low whole base p a slot rec es (length a₀) h.penning z.entry fs z.list a₁ e₁ ∙ sym (take-take low low a₀ (omega arith))

      rec-is : index_rec p z.entry ≡ rec_of (drop p (key_told a₁ b x.rest_at x.rest_len)) x.page.0
      unfolding index_rec
      rec-is = ap₂ (λ (k : List ℕ) (j : ℕ). rec_of (drop p k) j) (z.key ∙ sym (key-same a₁ w low same b x.rest_at x.rest_len below)) z.page

      pub child_asks : KeyBelow rec b x.rest_at x.rest_len × ((p ≤ b.prefix_len + x.rest_len) × (rec + length (rec_of (drop p (key_told a₁ b x.rest_at x.rest_len)) x.page.0) ≤ length a₁))
      child_asks = (
        key_up low rec b x.rest_at x.rest_len (rec-over a₀ low whole base p a slot rec es (length a₀) h.penning z.entry fs z.list a₁ e₁) below,
        (
          omega (arith, pen_key a₀ low whole base p a slot rec es (length a₀) h.penning z.entry fs z.list, z.long),
          omega (arith, ap length rec-is, rec-room a₀ low whole base p a slot rec es (length a₀) h.penning z.entry fs z.list a₁ e₁),
        ),
      )

      pub walk_turn : (a₂ : List ℕ) (rec' : ℕ) → rec' ≡ rec + length (rec_of (drop p (key_told a₁ b x.rest_at x.rest_len)) x.page.0)
          → a₂ ≡ put a₁ rec (rec_of (drop p (key_told a₁ b x.rest_at x.rest_len)) x.page.0) → Walking a₀ low whole b end base p past a₂ (i + 1) (slot + 4) rec'
      walk_turn a₂ rec' er e₂ =
          record {
            penning =
                pen_turn a₀ low whole base p a slot rec es (length a₀) h.penning z.entry fs z.list a₁ e₁ a₂ rec'
                (e₂ ∙ ap (put a₁ rec) (sym rec-is)) (er ∙ ap (λ (y : List ℕ). rec + length y) (sym rec-is));
            ends = omega (arith, er, ap length rec-is, h.ends, sums_are a₀ low whole base p a slot rec es (length a₀) h.penning z.entry fs z.list);
          }

-- ---- a page of the children of two

module _ (a : List ℕ) (footing at : ℕ) (m : Call) (none : List ℕ) (e : Boundaries) (b : Body) (from end : ℕ) (d : Body) (count n size : ℕ) (gb : Judged (take footing a) b 1) (gd : Judged (take footing a) d 1)
    (up : from ≤ end) (ub : end ≤ b.elems) (ud : count ≤ d.elems)
    (r : Ready a footing at none none e (index_entries (take footing a) b (end - from) from ++ index_entries (take footing a) d count 0) n size) where
  abbrev xs : List Entry
  xs = index_entries (take footing a) b (end - from) from

  abbrev ys : List Entry
  ys = index_entries (take footing a) d count 0

  abbrev s : ℕ
  s = at + slots_at

  abbrev q : ℕ
  q = at + slots_at + 4 * n + e.lo.len + e.hi.len

  abbrev o : ℕ
  o = at + box_len

  abbrev image : List ℕ
  image = put a at (index_image m (bounds_of none none (take footing a) e) (xs ++ ys))

  all : count - 0 ≡ count
  all = omega arith

  xs_long : length xs ≡ end - from
  xs_long = count-is (take footing a) b end from gb up ub

  pub both_long : n ≡ end - from + count
  both_long = omega (arith, r.count, length-append xs ys, xs_long, count-all (take footing a) d count gd ud)

  module _ (a₁ : List ℕ) (e₁ : a₁ ≡ fixed_on m at n size e (boundary_bytes none (take footing a) e.lo) (boundary_bytes none (take footing a) e.hi) a) where
    h₁ : Penning a footing image o e.prefix a₁ s q (xs ++ ys) (length a)
    h₁ = fixed_pens a footing at m none none e (xs ++ ys) n size r a₁ e₁

    pub one_asks : Judged (take footing a₁) b 1 × ((end ≤ b.elems) × Laid (length a₁) footing (at + slots_at) (at + slots_at + 4 * n + e.lo.len + e.hi.len) (at + box_len) e.prefix (index_entries (take footing a₁) b (end - from) from))
    one_asks = rw h₁.drawing.same (gb, (ub, part-laid a footing image o e.prefix a₁ s q xs ys (length a) h₁))

    module _ (k : ℕ) (a₂ : List ℕ) (ek : k ≡ at + slots_at + 4 * n + e.lo.len + e.hi.len + index_sums e.prefix (index_entries (take footing a₁) b (end - from) from))
        (e₂ : a₂ ≡ draws a₁ (index_left (at + slots_at) (at + slots_at + 4 * n + e.lo.len + e.hi.len) (at + box_len) e.prefix (index_entries (take footing a₁) b (end - from) from))) where
      h₂ : Penning a footing image o e.prefix a₂ (s + 4 * (end - from)) k ys (length a)
      h₂ = part_turn a footing image o e.prefix a₁ s q xs ys (length a) h₁ a₂ (s + 4 * (end - from)) k (rw h₁.drawing.same at e₂) (omega (arith, xs_long)) (rw h₁.drawing.same at ek)

      pub two_asks : Judged (take footing a₂) d 1 × ((count ≤ d.elems) × Laid (length a₂) footing (at + slots_at + 4 * (end - from)) k (at + box_len) e.prefix (index_entries (take footing a₂) d (count - 0) 0))
      two_asks = rw (all, h₂.drawing.same) (gd, (ud, pen_laid a footing image o e.prefix a₂ (s + 4 * (end - from)) k ys (length a) h₂))

      pub pages_done : (a₃ : List ℕ) → a₃ ≡ draws a₂ (index_left (at + slots_at + 4 * (end - from)) k (at + box_len) e.prefix (index_entries (take footing a₂) d (count - 0) 0))
          → a₃ ≡ put a at (index_image m (bounds_of none none (take footing a) e) (index_entries (take footing a) b (end - from) from ++ index_entries (take footing a) d count 0))
      pages_done a₃ e₃ = let f = rw (all, h₂.drawing.same) at e₃ in f ∙ h₂.drawing.goes
