-- Slots and records of some entries written side by side, wherever the entries are read: what is left, entry by entry or by many at once; and
-- one record.
-- Assumes nothing.
use mathlib.Core.Path.{◌≡◌, refl, sym, ap, ◌∙◌, subst}
use mathlib.Core.List.{List, [], ◌∷◌, ◌++◌, append_assoc}
use mathlib.Core.Bool.{true}
use Prim.Native.Nat.{ℕ, ◌+◌, ◌-◌, ◌*◌, ◌≤◌}
use native.Mathlib.Omega.{arith}
use lib.ListN.{length, take, drop, length-append}
use Rattle.spans.specs.Span.{put, Stored}
use Rattle.spans.proofs.Put.{length-put, take_put, put_chain, stored-count, stored_bytes}
use Rattle.numbers.specs.Number.{le}
use Rattle.numbers.proofs.Numbers.{length-le}
use Rattle.lengths.specs.Leb128.{uleb}
use Rattle.values.specs.Keys.{index_key}
use Rattle.build_sources.specs.Source.{Entry}
use Rattle.build_image.specs.Image.{index_key_len, index_sums, index_slots, index_recs}
use Rattle.build_image.proofs.Index.{length_index_key, length_index_slots, length_index_recs}
use Rattle.build_heads.specs.Steps.{Long}
use Rattle.build_pen.specs.Stretches.{Stretch, stretch, draws, Rising, Drawing}
use Rattle.build_pen.proofs.Drawn.{drew, drew-room}
use Rattle.build_pen.proofs.Cutting.{gone, over, rising_up}
use Rattle.build_index.specs.Parts.{rec_of, index_rec}
use Rattle.build_index.specs.Laid.{index_left, Laid}

-- ---- one record: the length of the rest of the key, the rest, the page id

module _ (a rest : List ℕ) (n id at : ℕ) (size : length rest ≡ n) (room : at + length (rec_of rest id) ≤ length a) where
  bytes : rec_of rest id ≡ (uleb n ++ rest) ++ le 8 id
  unfolding index_key
  bytes = ap (λ (k : ℕ). (uleb k ++ rest) ++ le 8 id) size

  long : length (rec_of rest id) ≡ length (uleb n) + n + 8
  long = omega (arith, ap length bytes, length-append (uleb n ++ rest) (le 8 id), length-append (uleb n) rest, length-le 8 id, size)

  module _ (k : ℕ) (a₁ : List ℕ) (st : Stored true a at (uleb n) k a₁) where
    len_room : at + length (uleb n) ≤ length a
    len_room = omega (arith, room, long)

    k_is : k ≡ length (uleb n)
    k_is = stored-count true a at (uleb n) k a₁ st refl len_room

    e₁ : a₁ ≡ put a at (uleb n)
    e₁ = stored_bytes true a at (uleb n) k a₁ st refl len_room

    pub rec-fits : at + k + n + 8 ≤ length a
    rec-fits = omega (arith, room, long, k_is)

    pub rest-room : at + k + n ≤ length a₁
    rest-room = omega (arith, rec-fits, ap length e₁, length-put a at (uleb n))

    pub rec-same : take at a₁ ≡ take at a
    rec-same = ap (take at) e₁ ∙ take_put at a at (uleb n) (omega arith)

    module _ (a₂ : List ℕ) (e₂ : a₂ ≡ put a₁ (at + k) rest) where
      both : a₂ ≡ put a at (uleb n ++ rest)
      both = put_chain a at (uleb n) rest e₁ e₂ (ap (λ (j : ℕ). at + j) k_is)

      pub id-room : at + k + n + 8 ≤ length a₂
      id-room = omega (arith, rec-fits, ap length both, length-put a at (uleb n ++ rest))

      pub rec-end : (a₃ : List ℕ) → a₃ ≡ put a₂ (at + k + n) (le 8 id) → (at + k + n + 8 ≡ at + length (rec_of rest id)) × (a₃ ≡ put a at (rec_of rest id))
      rec-end a₃ e₃ = (
        omega (arith, long, k_is),
        put_chain a at (uleb n ++ rest) (le 8 id) both e₃ (omega (arith, k_is, size, length-append (uleb n) rest)) ∙ ap (put a at) (sym bytes),
      )

-- ---- what each definition says of the first entry

none : (p off : ℕ) (es : List Entry) → es ≡ [] → (index_slots p off es ≡ []) × (index_recs p es ≡ [])
unfolding index_slots index_recs
none p off es e = rw e (refl, refl)

module _ (p : ℕ) (e : Entry) (es : List Entry) where
  pub length-rec : length (index_rec p e) ≡ index_key_len p (length e.key) + 8
  unfolding index_rec
  length-rec = omega (arith, length-append (index_key (drop p e.key)) (le 8 e.page), length_index_key p e, length-le 8 e.page)

  slots-first : (off : ℕ) → index_slots p off (e ∷ es) ≡ le 4 off ++ index_slots p (off + length (index_rec p e)) es
  unfolding index_slots
  slots-first off = ap (λ (n : ℕ). le 4 off ++ index_slots p (off + n) es) (sym length-rec)

  recs-first : index_recs p (e ∷ es) ≡ index_rec p e ++ index_recs p es
  unfolding index_recs index_rec
  recs-first = sym (append_assoc (index_key (drop p e.key)) (le 8 e.page) (index_recs p es))

  sums_first : index_sums p (e ∷ es) ≡ length (index_rec p e) + index_sums p es
  unfolding index_sums
  sums_first = ap (λ (n : ℕ). n + index_sums p es) (sym length-rec)

-- ---- and of the first ones

slots-part : (p off : ℕ) (xs ys : List Entry) → index_slots p off (xs ++ ys) ≡ index_slots p off xs ++ index_slots p (off + index_sums p xs) ys
unfolding index_slots index_sums
slots-part p off [] ys = let z : off ≡ off + 0 = omega arith in ap (λ (n : ℕ). index_slots p n ys) z
slots-part p off (e ∷ xs) ys =
    let n = index_key_len p (length e.key) + 8 in
    let z : off + n + index_sums p xs ≡ off + (n + index_sums p xs) = omega arith in
    ap (λ (x : List ℕ). le 4 off ++ x) (slots-part p (off + n) xs ys ∙ ap (λ (k : ℕ). index_slots p (off + n) xs ++ index_slots p k ys) z)
    ∙ sym (append_assoc (le 4 off) (index_slots p (off + n) xs) (index_slots p (off + (n + index_sums p xs)) ys))

recs-part : (p : ℕ) (xs ys : List Entry) → index_recs p (xs ++ ys) ≡ index_recs p xs ++ index_recs p ys
unfolding index_recs
recs-part p [] ys = refl
recs-part p (e ∷ xs) ys =
    recs-first p e (xs ++ ys)
    ∙ ap (λ (x : List ℕ). index_rec p e ++ x) (recs-part p xs ys)
    ∙ sym (append_assoc (index_rec p e) (index_recs p xs) (index_recs p ys))
    ∙ ap (λ (x : List ℕ). x ++ index_recs p ys) (sym (recs-first p e xs))

pub sums_part : (p : ℕ) (xs ys : List Entry) → index_sums p (xs ++ ys) ≡ index_sums p xs + index_sums p ys
unfolding index_sums
sums_part p [] ys = omega arith
sums_part p (e ∷ xs) ys = omega (arith, sums_part p xs ys)

long-part : (p : ℕ) (xs ys : List Entry) → Long p (xs ++ ys) → Long p xs × Long p ys
long-part p [] ys h = (tt, h)
long-part p (e ∷ xs) ys (h, k) = let z = long-part p xs ys k in ((h, z.0), z.1)

-- ---- the loop

-- with what is left of es the arena is whole
pub record Penning (a₀ : List ℕ) (low : ℕ) (whole : List ℕ) (base p : ℕ) (a : List ℕ) (slot rec : ℕ) (es : List Entry) (end : ℕ) : Type 0 where
  pub drawing : Drawing a₀ low whole a (index_left slot rec base p es) end
  pub above : base ≤ rec
  pub small : rec + index_sums p es ≤ base + 4294967295
  pub keys : Long p es

pub pen_begin : (a : List ℕ) (low slot rec base p : ℕ) (es : List Entry) → Laid (length a) low slot rec base p es
    → Penning a low (draws a (index_left slot rec base p es)) base p a slot rec es (length a)
pen_begin a low slot rec base p es h =
    record {
      drawing = record { goes = refl; order = h.order; room = omega arith; long = refl; same = refl };
      above = h.above;
      small = h.small;
      keys = h.keys;
    }

module _ (a₀ : List ℕ) (low : ℕ) (whole : List ℕ) (base p : ℕ) (a : List ℕ) (slot rec : ℕ) (es : List Entry) (end : ℕ) (h : Penning a₀ low whole base p a slot rec es end) where
  pub pen_end : es ≡ [] → a ≡ whole
  pen_end q =
      let n = none p (rec - base) es q in
      (gone a₀ low whole a [] rec _ [] end (gone a₀ low whole a [] slot _ _ end h.drawing n.0) n.1).goes

  -- one entry more
  module _ (e : Entry) (fs : List Entry) (q : es ≡ e ∷ fs) where
    abbrev off : ℕ
    off = rec - base

    slots_are : index_slots p (rec - base) es ≡ le 4 off ++ index_slots p (off + length (index_rec p e)) fs
    slots_are = ap (index_slots p off) q ∙ slots-first p e fs off

    recs_are : index_recs p es ≡ index_rec p e ++ index_recs p fs
    recs_are = ap (index_recs p) q ∙ recs-first p e fs

    pub sums_are : index_sums p es ≡ length (index_rec p e) + index_sums p fs
    sums_are = ap (index_sums p) q ∙ sums_first p e fs

    keys_are : Long p (e ∷ fs)
    keys_are = subst (λ (xs : List Entry). Long p xs) q h.keys

    pub pen_key : p ≤ length e.key
    pen_key = keys_are.0

    pub off_small : off ≤ 4294967295
    off_small = omega (arith, h.small)

    pub slot-room : slot + 4 ≤ length a
    slot-room =
        omega (arith, length-le 4 off, drew-room a₀ low whole a [] slot _ (le 4 off) (index_slots p (off + length (index_rec p e)) fs) (stretch rec (index_recs p es) ∷ []) end h.drawing slots_are)

    -- its slot is stored
    module _ (a₁ : List ℕ) (e₁ : a₁ ≡ put a slot (le 4 (rec - base))) where
      abbrev fore : List Stretch
      fore = stretch (slot + 4) (index_slots p (off + length (index_rec p e)) fs) ∷ []

      slotted : Drawing a₀ low whole a₁ (fore ++ stretch rec (index_recs p es) ∷ []) end
      slotted =
          drew a₀ low whole a [] slot _ (le 4 off) (index_slots p (off + length (index_rec p e)) fs) (stretch rec (index_recs p es) ∷ []) end a₁ (slot + 4) h.drawing slots_are e₁
          (ap (λ (n : ℕ). slot + n) (sym (length-le 4 off)))

      pub rec-over : low ≤ rec
      rec-over = over a₀ low whole a₁ fore rec _ [] end slotted

      pub footing-same : take low a₁ ≡ take low a₀
      footing-same = slotted.same

      pub rec-room : rec + length (index_rec p e) ≤ length a₁
      rec-room = drew-room a₀ low whole a₁ fore rec _ (index_rec p e) (index_recs p fs) [] end slotted recs_are

      -- and its record
      pub pen_turn : (a₂ : List ℕ) (rec' : ℕ) → a₂ ≡ put a₁ rec (index_rec p e) → rec' ≡ rec + length (index_rec p e) → Penning a₀ low whole base p a₂ (slot + 4) rec' fs end
      pen_turn a₂ rec' e₂ er =
          let d = drew a₀ low whole a₁ fore rec _ (index_rec p e) (index_recs p fs) [] end a₂ rec' slotted recs_are e₂ er in
          let o : off + length (index_rec p e) ≡ rec' - base = omega (arith, er, h.above) in
          record {
            drawing = subst (λ (n : ℕ). Drawing a₀ low whole a₂ (stretch (slot + 4) (index_slots p n fs) ∷ stretch rec' (index_recs p fs) ∷ []) end) o d;
            above = omega (arith, er, h.above);
            small = omega (arith, er, h.small, sums_are);
            keys = keys_are.1;
          }

-- what is left can be written
pub pen_laid : (a₀ : List ℕ) (low : ℕ) (whole : List ℕ) (base p : ℕ) (a : List ℕ) (slot rec : ℕ) (es : List Entry) (end : ℕ) → Penning a₀ low whole base p a slot rec es end
    → Laid (length a) low slot rec base p es
pen_laid a₀ low whole base p a slot rec es end h = record { order = rising_up low (index_left slot rec base p es) end (length a) h.drawing.room h.drawing.order; above = h.above; small = h.small; keys = h.keys }

-- ---- many entries at once

module _ (a₀ : List ℕ) (low : ℕ) (whole : List ℕ) (base p : ℕ) (a : List ℕ) (slot rec : ℕ) (xs ys : List Entry) (end : ℕ) (h : Penning a₀ low whole base p a slot rec (xs ++ ys) end) where
  abbrev after : ℕ
  after = rec - base + index_sums p xs

  pub part-laid : Laid (length a) low slot rec base p xs
  part-laid =
      record {
        order = first h.drawing.order;
        above = h.above;
        small = omega (arith, h.small, sums_part p xs ys);
        keys = (long-part p xs ys h.keys).0;
      }
    where
      first : Rising low (index_left slot rec base p (xs ++ ys)) end → Rising low (index_left slot rec base p xs) (length a)
      first (i, (j, k)) = (
        i,
        (
          omega (arith, j, ap length (slots-part p (rec - base) xs ys), length-append (index_slots p (rec - base) xs) (index_slots p (rec - base + index_sums p xs) ys)),
          omega (arith, k, ap length (recs-part p xs ys), length-append (index_recs p xs) (index_recs p ys), h.drawing.room),
        ),
      )

  pub part_turn : (a₁ : List ℕ) (slot' rec' : ℕ) → a₁ ≡ draws a (index_left slot rec base p xs) → slot' ≡ slot + 4 * length xs → rec' ≡ rec + index_sums p xs → Penning a₀ low whole base p a₁ slot' rec' ys end
  part_turn a₁ slot' rec' e₁ es er =
      let d =
      drew a₀ low whole a [] slot _ (index_slots p (rec - base) xs) (index_slots p after ys) (stretch rec (index_recs p (xs ++ ys)) ∷ []) end (put a slot (index_slots p (rec - base) xs)) slot'
      h.drawing (slots-part p (rec - base) xs ys) refl (omega (arith, es, length_index_slots p (rec - base) xs))
      in
      let f = drew a₀ low whole _ (stretch slot' (index_slots p after ys) ∷ []) rec _ (index_recs p xs) (index_recs p ys) [] end a₁ rec' d (recs-part p xs ys) e₁ (omega (arith, er, length_index_recs p xs)) in
      let o : after ≡ rec' - base = omega (arith, er, h.above) in
      record {
        drawing = subst (λ (n : ℕ). Drawing a₀ low whole a₁ (stretch slot' (index_slots p n ys) ∷ stretch rec' (index_recs p ys) ∷ []) end) o f;
        above = omega (arith, er, h.above);
        small = omega (arith, er, h.small, sums_part p xs ys);
        keys = (long-part p xs ys h.keys).1;
      }
