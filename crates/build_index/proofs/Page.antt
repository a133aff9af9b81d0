-- An index page as one store: headers, slots, boundaries, records, zeros. One module a store.
-- Assumes nothing.
use mathlib.Core.Path.{◌≡◌, refl, sym, ap, ◌∙◌}
use mathlib.Core.List.{List, [], ◌++◌, append-nil}
use Prim.Native.Nat.{ℕ, ◌+◌, ◌-◌, ◌*◌, ◌≤◌}
use native.Mathlib.Omega.{arith}
use lib.ListN.{length, take, replicate, length-replicate}
use Rattle.spans.specs.Span.{put}
use Rattle.spans.proofs.Writing.{Writing, begin, wrote, front}
use Rattle.frames.specs.declared.BaseHeader.{BaseHeader}
use Rattle.frames.specs.Layout.{box_len, base_len, slots_at, node_index, frame_len}
use Rattle.frames.specs.Stored.{page_bytes, base_of}
use Rattle.frames.specs.Limits.{max_entries, max_size}
use Rattle.frames.proofs.Stores.{length-heads}
use Rattle.build_sources.specs.declared.Cursor.{Cursor}
use Rattle.build_sources.specs.Source.{Entry, entries}
use Rattle.build_image.specs.declared.Call.{Call}
use Rattle.build_image.specs.Sizes.{pad}
use Rattle.build_image.specs.Image.{page_box, first_of, index_sums, index_slots, index_recs, index_size, index_image, Borders}
use Rattle.build_image.proofs.Lengths.{frame-least}
use Rattle.build_image.proofs.Index.{length_index_slots, length_index_recs, length_index}
use Rattle.build_history.proofs.Writes.{wrote_n, room-n}
use Rattle.build_heads.specs.Steps.{Long}
use Rattle.build_bounds.specs.declared.Boundaries.{Boundaries}
use Rattle.build_bounds.specs.Boundaries.{Within, boundary_bytes, bounds_of}
use Rattle.build_bounds.proofs.Laws.{length_boundary}
use Rattle.build_index.specs.Parts.{index_head, Ready}

-- both headers
pub heads-end : (a : List ℕ) (at : ℕ) (m : Call) (n size sibling lo hi prefix : ℕ) (b : BaseHeader) (a₁ : List ℕ) → b ≡ base_of size n sibling lo hi prefix 1 0
    → a₁ ≡ put a at (page_bytes (page_box m size node_index 0 0) b) → a₁ ≡ put a at (index_head m n size sibling lo hi prefix)
unfolding index_head
heads-end a at m n size sibling lo hi prefix b a₁ e₁ e₂ = e₂ ∙ ap (λ (h : BaseHeader). put a at (page_bytes (page_box m size node_index 0 0) h)) e₁

pub length_head : (m : Call) (n size sibling lo hi prefix : ℕ) → length (index_head m n size sibling lo hi prefix) ≡ slots_at
unfolding index_head
length_head m n size sibling lo hi prefix = length-heads (page_box m size node_index 0 0) (base_of size n sibling lo hi prefix 1 0)

-- the page, by the judge's numbers
page_parts : (m : Call) (b : Borders) (es : List Entry)
    → index_image m b es ≡ index_head m (length es) (index_size b es) b.sibling (length b.lo) (length b.hi) b.prefix
    ++ (index_slots b.prefix (first_of b (length es)) es ++ (b.lo ++ (b.hi ++ (index_recs b.prefix es ++ pad (index_size b es)))))
unfolding index_image index_head
page_parts m b es = refl

pub page_open : (m : Call) (b : Borders) (es : List Entry) (n size lo hi first : ℕ) → n ≡ length es → size ≡ index_size b es → lo ≡ length b.lo → hi ≡ length b.hi → first ≡ base_len + 4 * n + lo + hi
    → index_image m b es ≡ index_head m n size b.sibling lo hi b.prefix ++ (index_slots b.prefix first es ++ (b.lo ++ (b.hi ++ (index_recs b.prefix es ++ pad size))))
page_open m b es n size lo hi first e₁ e₂ e₃ e₄ e₅ = rw (e₅, e₁, e₂, e₃, e₄) (page_parts m b es)

pub size_open : (b : Borders) (es : List Entry) (size : ℕ) → size ≡ index_size b es → size ≡ base_len + 4 * length es + length b.lo + length b.hi + index_sums b.prefix es
unfolding index_size
size_open b es size e = e

module _ (l a : List ℕ) (footing : ℕ) (c : Cursor) (at : ℕ) (m : Call) (n size : ℕ) (lo hi : List ℕ) (e : Boundaries)
    (r : Ready a footing at lo hi e (entries l (take footing a) c) n size) where
  abbrev es : List Entry
  es = entries l (take footing a) c

  abbrev b : Borders
  b = bounds_of lo hi (take footing a) e

  abbrev whole : List ℕ
  whole = put a at (index_image m b es)

  abbrev first : ℕ
  first = base_len + 4 * n + e.lo.len + e.hi.len

  lo-long : length (boundary_bytes lo (take footing a) e.lo) ≡ e.lo.len
  lo-long = length_boundary lo (take footing a) e.lo r.inside.footing

  hi-long : length (boundary_bytes hi (take footing a) e.hi) ≡ e.hi.len
  hi-long = length_boundary hi (take footing a) e.hi r.inside.high

  pub sized : size ≡ first + index_sums e.prefix es
  sized = omega (arith, size_open b es size r.whole, r.count, lo-long, hi-long)

  pub fits : at + (box_len + size) ≤ length a
  fits = omega (arith, r.room, frame-least size)

  -- what the headers ask
  pub head_asks : (at + slots_at ≤ length a) × ((n ≤ max_entries) × ((size ≤ max_size) × ((e.lo.len ≤ size) × (e.hi.len ≤ size) × (e.prefix ≤ size))))
  head_asks = (omega (arith, fits, sized), (r.few, (r.small, (omega (arith, sized), omega (arith, sized), omega (arith, sized, r.shared)))))

  bytes : index_image m b es ≡ index_head m n size e.sibling.0 e.lo.len e.hi.len e.prefix ++ (index_slots e.prefix first es ++ (b.lo ++ (b.hi ++ (index_recs e.prefix es ++ pad size))))
  bytes = page_open m b es n size e.lo.len e.hi.len first r.count r.whole (sym lo-long) (sym hi-long) refl

  p0 : Writing a footing whole a at (index_image m b es)
  p0 = begin a footing at _ r.over (rw (length_index m b es, ← r.whole) r.room)

  module _ (a₁ : List ℕ) (e₁ : a₁ ≡ put a at (index_head m n size e.sibling.0 e.lo.len e.hi.len e.prefix)) where
    p1 : Writing a footing whole a₁ (at + slots_at) (index_slots e.prefix first es ++ (b.lo ++ (b.hi ++ (index_recs e.prefix es ++ pad size))))
    p1 = wrote_n a footing whole a at _ (index_head m n size e.sibling.0 e.lo.len e.hi.len e.prefix) _ p0 bytes slots_at a₁ (at + slots_at) (length_head m n size e.sibling.0 e.lo.len e.hi.len e.prefix) e₁ refl

    pub slots_asks : (footing ≤ at + slots_at) × (Long e.prefix (entries l (take footing a₁) c) × ((at + slots_at + length (index_slots e.prefix first (entries l (take footing a₁) c)) ≤ length a₁) × (first + index_sums e.prefix (entries l (take footing a₁) c) ≤ 4294967295)))
    slots_asks = rw p1.same (p1.over, (r.long, (front a footing whole a₁ (at + slots_at) _ (index_slots e.prefix first es) _ p1 refl, omega (arith, sized, r.small))))

    module _ (a₂ : List ℕ) (e₂ : a₂ ≡ put a₁ (at + slots_at) (index_slots e.prefix first (entries l (take footing a₁) c))) where
      p2 : Writing a footing whole a₂ (at + slots_at + 4 * n) (b.lo ++ (b.hi ++ (index_recs e.prefix es ++ pad size)))
      p2 = wrote a footing whole a₁ (at + slots_at) _ (index_slots e.prefix first es) _ a₂ (at + slots_at + 4 * n) p1 refl (rw p1.same at e₂) (omega (arith, length_index_slots e.prefix first es, r.count))

      pub lo_asks : (footing ≤ at + slots_at + 4 * n) × ((at + slots_at + 4 * n + e.lo.len ≤ length a₂) × Within lo (take footing a₂) e.lo)
      lo_asks = rw p2.same (p2.over, (room-n a footing whole a₂ (at + slots_at + 4 * n) _ b.lo _ p2 refl e.lo.len lo-long, r.inside.footing))

      module _ (a₃ : List ℕ) (e₃ : a₃ ≡ put a₂ (at + slots_at + 4 * n) (boundary_bytes lo (take footing a₂) e.lo)) where
        p3 : Writing a footing whole a₃ (at + slots_at + 4 * n + e.lo.len) (b.hi ++ (index_recs e.prefix es ++ pad size))
        p3 = wrote_n a footing whole a₂ (at + slots_at + 4 * n) _ b.lo _ p2 refl e.lo.len a₃ (at + slots_at + 4 * n + e.lo.len) lo-long (rw p2.same at e₃) refl

        pub hi_asks : (footing ≤ at + slots_at + 4 * n + e.lo.len) × ((at + slots_at + 4 * n + e.lo.len + e.hi.len ≤ length a₃) × Within hi (take footing a₃) e.hi)
        hi_asks = rw p3.same (p3.over, (room-n a footing whole a₃ (at + slots_at + 4 * n + e.lo.len) _ b.hi _ p3 refl e.hi.len hi-long, r.inside.high))

        module _ (a₄ : List ℕ) (e₄ : a₄ ≡ put a₃ (at + slots_at + 4 * n + e.lo.len) (boundary_bytes hi (take footing a₃) e.hi)) where
          p4 : Writing a footing whole a₄ (at + slots_at + 4 * n + e.lo.len + e.hi.len) (index_recs e.prefix es ++ pad size)
          p4 = wrote_n a footing whole a₃ (at + slots_at + 4 * n + e.lo.len) _ b.hi _ p3 refl e.hi.len a₄ (at + slots_at + 4 * n + e.lo.len + e.hi.len) hi-long (rw p3.same at e₄) refl

          pub recs_asks : (footing ≤ at + slots_at + 4 * n + e.lo.len + e.hi.len) × (Long e.prefix (entries l (take footing a₄) c) × (at + slots_at + 4 * n + e.lo.len + e.hi.len + length (index_recs e.prefix (entries l (take footing a₄) c)) ≤ length a₄))
          recs_asks = rw p4.same (p4.over, (r.long, front a footing whole a₄ (at + slots_at + 4 * n + e.lo.len + e.hi.len) _ (index_recs e.prefix es) _ p4 refl))

          module _ (a₅ : List ℕ) (e₅ : a₅ ≡ put a₄ (at + slots_at + 4 * n + e.lo.len + e.hi.len) (index_recs e.prefix (entries l (take footing a₄) c))) where
            p5 : Writing a footing whole a₅ (at + (box_len + size)) (pad size)
            p5 =
                wrote a footing whole a₄ (at + slots_at + 4 * n + e.lo.len + e.hi.len) _ (index_recs e.prefix es) _ a₅ (at + (box_len + size)) p4 refl (rw p4.same at e₅)
                (omega (arith, length_index_recs e.prefix es, sized))

            module _ (x : ℕ) (ex : x ≡ frame_len size) where
              pads : pad size ≡ replicate (x - (box_len + size)) 0
              unfolding pad
              pads = ap (λ (y : ℕ). replicate (y - (box_len + size)) 0) (sym ex)

              pub zeros-room : at + (box_len + size) + (x - (box_len + size)) ≤ length a₅
              zeros-room = room-n a footing whole a₅ (at + (box_len + size)) _ (replicate (x - (box_len + size)) 0) [] p5 (pads ∙ sym (append-nil (replicate (x - (box_len + size)) 0))) _ (length-replicate _ 0)

              pub page-whole : (a₆ : List ℕ) → a₆ ≡ put a₅ (at + (box_len + size)) (replicate (x - (box_len + size)) 0) → a₆ ≡ whole
              page-whole a₆ q = q ∙ ap (put a₅ (at + (box_len + size))) (sym pads) ∙ p5.goes
