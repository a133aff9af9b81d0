-- The length of each thing that an index build writes: the arithmetic of its judge.
-- Assumes nothing.
use mathlib.Core.Path.{◌≡◌, refl, sym, ap, ◌∙◌}
use mathlib.Core.List.{List, [], ◌∷◌, ◌++◌}
use Prim.Native.Nat.{ℕ, zero, suc, ◌+◌, ◌-◌, ◌*◌, ◌≤◌, ◌<◌}
use native.Mathlib.Omega.{arith}
use lib.ListN.{length, drop, length-append, length-drop}
use Rattle.numbers.specs.Number.{le}
use Rattle.numbers.proofs.Numbers.{length-le}
use Rattle.lengths.specs.Leb128.{uleb}
use Rattle.frames.specs.Layout.{box_len, base_len, node_index, frame_len}
use Rattle.frames.specs.Stored.{page_bytes, base_of}
use Rattle.frames.proofs.Stores.{length-heads}
use Rattle.values.specs.Keys.{index_key}
use Rattle.build_sources.specs.Source.{Entry}
use Rattle.build_image.specs.declared.Call.{Call}
use Rattle.build_image.specs.Sizes.{pad}
use Rattle.build_image.specs.Image.{page_box, first_of, index_recs, index_key_len, index_sums, index_slots, index_size, index_image, Borders}
use Rattle.build_image.proofs.Lengths.{frame-least, length-pad}

pub length_index_slots : (p off : ℕ) (es : List Entry) → length (index_slots p off es) ≡ 4 * length es
unfolding index_slots
length_index_slots p off [] = refl
length_index_slots p off (e ∷ es) =
    let next = off + (index_key_len p (length e.key) + 8) in
    omega (arith, length-append (le 4 off) (index_slots p next es), length-le 4 off, length_index_slots p next es)

-- a key without the page's prefix
pub length_index_key : (p : ℕ) (e : Entry) → length (index_key (drop p e.key)) ≡ index_key_len p (length e.key)
unfolding index_key index_key_len
length_index_key p e =
    length-append (uleb (length (drop p e.key))) (drop p e.key)
    ∙ ap (λ (n : ℕ). length (uleb n) + n) (length-drop p e.key)

pub length_index_recs : (p : ℕ) (es : List Entry) → length (index_recs p es) ≡ index_sums p es
unfolding index_recs index_sums
length_index_recs p [] = refl
length_index_recs p (e ∷ es) =
    omega (
      arith,
      length-append (index_key (drop p e.key)) (le 8 e.page ++ index_recs p es),
      length-append (le 8 e.page) (index_recs p es),
      length_index_key p e,
      length-le 8 e.page,
      length_index_recs p es,
    )

-- the whole frame, rounded
pub length_index : (m : Call) (b : Borders) (es : List Entry) → length (index_image m b es) ≡ frame_len (index_size b es)
unfolding index_image index_size
length_index m b es =
    let s = first_of b (length es) + index_sums b.prefix es in
    let box = page_box m s node_index 0 0 in
    let base = base_of s (length es) b.sibling (length b.lo) (length b.hi) b.prefix 1 0 in
    let slots = index_slots b.prefix (first_of b (length es)) es in
    let recs = index_recs b.prefix es in
    omega (
      arith,
      length-append (page_bytes box base) (slots ++ (b.lo ++ (b.hi ++ (recs ++ pad s)))),
      length-append slots (b.lo ++ (b.hi ++ (recs ++ pad s))),
      length-append b.lo (b.hi ++ (recs ++ pad s)),
      length-append b.hi (recs ++ pad s),
      length-append recs (pad s),
      length-heads box base,
      length_index_slots b.prefix (first_of b (length es)) es,
      length_index_recs b.prefix es,
      length-pad s,
      frame-least s,
    )
