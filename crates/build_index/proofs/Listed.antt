-- An index list's entries, read place by place and written by the laws of `Penning`. Which key stands before an entry tells no byte of its
-- record, so the loop does not keep it: the invariant says that there is one.
-- Assumes nothing.
use mathlib.Core.Path.{◌≡◌, refl, sym, ap, ◌∙◌}
use mathlib.Core.List.{List, []}
use mathlib.Core.Bool.{Bool, true, false}
use Prim.Native.Nat.{ℕ, ◌+◌, ◌-◌, ◌≤◌, ◌<◌}
use native.Mathlib.Omega.{arith}
use lib.ListN.{length, drop}
use Rattle.spans.specs.Span.{part, put, Stored}
use Rattle.spans.proofs.Part.{length_part, part_or_in}
use Rattle.numbers.specs.Number.{le, be_at}
use Rattle.lengths.specs.Leb128.{uleb}
use Rattle.frames.specs.Limits.{max_key}
use Rattle.build_sources.specs.declared.Cursor.{Cursor}
use Rattle.build_sources.specs.Lists.{first_of, index_item}
use Rattle.build_sources.specs.Source.{Entry, entry_of, entries, well_formed}
use Rattle.build_sources.proofs.Sourced.{Found, found, ended, odd}
use Rattle.build_sweep.specs.Ents.{index_ent_at}
use Rattle.build_sweep.specs.Swept.{listed}
use Rattle.build_sweep.proofs.Ents.{here, index_few, index_long, index_cut, index_found, index_at_lem, index_out, index_end_lem, key-bare}
use Rattle.build_pen.specs.Stretches.{draws}
use Rattle.build_pen.proofs.WritingList.{drop-part}
use Rattle.build_index.specs.Parts.{rec_of, index_rec}
use Rattle.build_index.specs.Laid.{index_left, Laid}
use Rattle.build_index.proofs.Penning as penning
use Rattle.build_index.proofs.Penning.{Penning, pen_begin, pen_end, pen_key, off_small, slot-room, rec-room, pen_turn}
use Rattle.std.proofs.Common.{None}

-- ---- one record: the rest of its key is a stretch of the list

module _ (a l : List ℕ) (kat n at p : ℕ) (fits : kat + n + 8 ≤ length l) (less : p ≤ n) (room : at + length (rec_of (part l (kat + p) (n - p)) (be_at 8 l (kat + n))) ≤ length a) where
  abbrev rest : List ℕ
  rest = part l (kat + p) (n - p)

  rest-long : length (part l (kat + p) (n - p)) ≡ n - p
  rest-long = length_part l (kat + p) (n - p) (omega (arith, fits, less))

  module _ (k : ℕ) (a₁ : List ℕ) (st : Stored true a at (uleb (n - p)) k a₁) where
    pub rec-fits : at + k + (n - p) + 8 ≤ length a
    rec-fits = penning.rec-fits a rest (n - p) (be_at 8 l (kat + n)) at rest-long room k a₁ st

    slice_is : part l (kat + p) (kat + n - (kat + p)) ≡ rest
    slice_is = let z : kat + n - (kat + p) ≡ n - p = omega (arith, less) in ap (part l (kat + p)) z

    pub copy_room : at + k + length (part l (kat + p) (kat + n - (kat + p))) ≤ length a₁
    copy_room = omega (arith, penning.rest-room a rest (n - p) (be_at 8 l (kat + n)) at rest-long room k a₁ st, ap length slice_is, rest-long)

    module _ (a₂ : List ℕ) (e₂ : a₂ ≡ put a₁ (at + k) (part l (kat + p) (kat + n - (kat + p)))) where
      f₂ : a₂ ≡ put a₁ (at + k) rest
      f₂ = e₂ ∙ ap (put a₁ (at + k)) slice_is

      pub id-room : at + k + (n - p) + 8 ≤ length a₂
      id-room = penning.id-room a rest (n - p) (be_at 8 l (kat + n)) at rest-long room k a₁ st a₂ f₂

      pub rec-end : (id : ℕ) → id ≡ be_at 8 l (kat + n) → (a₃ : List ℕ) → a₃ ≡ put a₂ (at + k + (n - p)) (le 8 id)
          → (at + k + (n - p) + 8 ≡ at + length (rec_of (part l (kat + p) (n - p)) (be_at 8 l (kat + n)))) × (a₃ ≡ put a at (rec_of (part l (kat + p) (n - p)) (be_at 8 l (kat + n))))
      rec-end id ei a₃ e₃ = penning.rec-end a rest (n - p) (be_at 8 l (kat + n)) at rest-long room k a₁ st a₂ f₂ a₃ (e₃ ∙ ap (λ (i : ℕ). put a₂ (at + k + (n - p)) (le 8 i)) ei)

-- ---- the loop over a list

clash : {x : Bool} → x ≡ false → x ≡ true → ⊥
clash p q = let z : ◌≡◌ {A = Bool} false true = sym p ∙ q in let y : ◌≡◌ {A = ℕ} 0 1 = cc in omega arith

pub record Reading (a₀ l whole : List ℕ) (base p : ℕ) (a : List ℕ) (at slot rec : ℕ) : Type 0 where
  pub seen : Bool
  pub kat : ℕ
  pub klen : ℕ
  pub well : well_formed l [] (here 1 at seen kat klen) ≡ true
  pub penning : Penning a₀ 0 whole base p a slot rec (entries l [] (here 1 at seen kat klen)) (length a₀)

pub read_begin : (a l : List ℕ) (slot rec base p : ℕ) → well_formed l [] (first_of 1) ≡ true → Laid (length a) 0 slot rec base p (listed l 1)
    → Reading a l (draws a (index_left slot rec base p (listed l 1))) base p a 5 slot rec
read_begin a l slot rec base p w h = record { seen = false; kat = 0; klen = 0; well = w; penning = pen_begin a 0 slot rec base p (listed l 1) h }

module _ (a₀ l whole : List ℕ) (base p : ℕ) (a : List ℕ) (at slot rec : ℕ) (h : Reading a₀ l whole base p a at slot rec) where
  abbrev c : Cursor
  c = here 1 at h.seen h.kat h.klen

  abbrev es : List Entry
  es = entries l [] c

  pub read-end : length l ≤ at → a ≡ whole
  read-end q = pen_end a₀ 0 whole base p a slot rec es (length a₀) h.penning (ended l [] c (index_end_lem l [] at h.seen h.kat h.klen q)).0

  module _ (lt : at < length l) where
    no_out : None ≡ index_ent_at l at → ⊥
    no_out q = clash (odd l [] c (index_out l [] at h.seen h.kat h.klen lt q)).1 h.well

    pub ten_fit : at + 10 ≤ length l
    ten_fit = let z : length l < at + 10 → ⊥ = λ f. no_out (index_few l at (omega (arith, lt)) f) in omega (arith, z)

    module _ (n : ℕ) (en : n ≡ be_at 2 l at) where
      pub key-small : n ≤ max_key
      key-small = let z : max_key < n → ⊥ = λ f. no_out (index_long l at n en (omega (arith, ten_fit)) f) in omega (arith, z)

      all_fit : at + 2 + (n + 8) ≤ length l
      all_fit = let z : length l < at + 2 + (n + 8) → ⊥ = λ f. no_out (index_cut l at n en (omega (arith, ten_fit)) key-small f) in omega (arith, z)

      pub entry-fits : at + 2 + n + 8 ≤ length l
      entry-fits = omega (arith, all_fit)

      pub read-less : length l - (at + 2 + n + 8) < length l - at
      read-less = omega (arith, entry-fits)

      abbrev on : Cursor
      on = here 1 (at + 2 + n + 8) true (at + 2) n

      abbrev e : Entry
      e = entry_of l [] (index_item l c n)

      fd : Found l [] c (index_item l c n) on
      fd = found l [] c (index_item l c n) on (index_at_lem l [] at h.seen h.kat h.klen lt n 0 (index_found l at n en (omega (arith, ten_fit)) key-small all_fit))

      key-is : e.key ≡ part l (at + 2) n
      unfolding entry_of
      key-is = key-bare l (at + 2) n ∙ part_or_in l (at + 2) n (omega (arith, entry-fits))

      page-is : e.page ≡ be_at 8 l (at + 2 + n)
      unfolding entry_of
      page-is = refl

      pub key-least : p ≤ n
      key-least =
          omega (arith, pen_key a₀ 0 whole base p a slot rec es (length a₀) h.penning e (entries l [] on) fd.list, ap length key-is, length_part l (at + 2) n (omega (arith, entry-fits)))

      rest-is : drop p (part l (at + 2) n) ≡ part l (at + 2 + p) (n - p)
      rest-is = drop-part l (at + 2) n p (omega (arith, entry-fits)) key-least

      rec-is : index_rec p e ≡ rec_of (part l (at + 2 + p) (n - p)) (be_at 8 l (at + 2 + n))
      unfolding index_rec
      rec-is = ap (λ (x : List ℕ). rec_of (drop p x) e.page) key-is ∙ ap (λ (x : List ℕ). rec_of x e.page) rest-is ∙ ap (rec_of (part l (at + 2 + p) (n - p))) page-is

      pub off_fits : (base ≤ rec) × (rec - base ≤ 4294967295)
      off_fits = (h.penning.above, off_small a₀ 0 whole base p a slot rec es (length a₀) h.penning e (entries l [] on) fd.list)

      pub slot-fits : slot + 4 ≤ length a
      slot-fits = slot-room a₀ 0 whole base p a slot rec es (length a₀) h.penning e (entries l [] on) fd.list

      module _ (a₁ : List ℕ) (e₁ : a₁ ≡ put a slot (le 4 (rec - base))) where
        pub rec_asks : (at + 2 + n + 8 ≤ length l) × (((n ≤ max_key) × (p ≤ n)) × (rec + length (rec_of (part l (at + 2 + p) (n - p)) (be_at 8 l (at + 2 + n))) ≤ length a₁))
        rec_asks = (
          entry-fits,
          ((key-small, key-least), rw (← rec-is) (rec-room a₀ 0 whole base p a slot rec es (length a₀) h.penning e (entries l [] on) fd.list a₁ e₁)),
        )

        pub read_turn : (a₂ : List ℕ) (rec' : ℕ) → rec' ≡ rec + length (rec_of (part l (at + 2 + p) (n - p)) (be_at 8 l (at + 2 + n)))
            → a₂ ≡ put a₁ rec (rec_of (part l (at + 2 + p) (n - p)) (be_at 8 l (at + 2 + n))) → Reading a₀ l whole base p a₂ (at + 2 + n + 8) (slot + 4) rec'
        read_turn a₂ rec' er e₂ =
            record {
              seen = true;
              kat = at + 2;
              klen = n;
              well = sym fd.well ∙ h.well;
              penning =
                  pen_turn a₀ 0 whole base p a slot rec es (length a₀) h.penning e (entries l [] on) fd.list a₁ e₁ a₂ rec'
                  (e₂ ∙ ap (put a₁ rec) (sym rec-is)) (er ∙ ap (λ (x : List ℕ). rec + length x) (sym rec-is));
            }
