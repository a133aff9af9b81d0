-- The page that an index build wrote says exactly what the build was told: `index_says`.
-- Assumes nothing.
use Prim.Native.Nat.{ℕ, ◌+◌, ◌*◌, ◌≤◌}
use mathlib.Core.Path.{◌≡◌, refl, sym, ap, ◌∙◌, subst}
use mathlib.Core.Bool.{true}
use mathlib.Core.List.{List, ◌++◌}
use native.Mathlib.Omega.{arith}
use borrow.Author.Tests.{le-leb, eq-eqb}
use lib.ListN.{length, take}
use lib.Seq.{length-take-le}
use Rattle.spans.specs.Span.{Lies}
use Rattle.order.specs.Bounds.{bounded}
use Rattle.frames.specs.declared.Body.{Body}
use Rattle.frames.specs.Layout.{addr, box_len, base_len, frame_len, base_ok, kind_of, body_of}
use Rattle.frames.specs.Limits.{max_key}
use Rattle.pages.specs.Sound.{slots_from, slots_ok, hints_ok}
use Rattle.pages.specs.Meaning.{Child, says, prefix_of, child_of, rows_from, page_says, page_bounded, sound_body, meaning}
use Rattle.pages.proofs.Turns.{chains_index, body-bounds}
use Rattle.build_sources.specs.Source.{Entry}
use Rattle.spans.proofs.Lying.{lies_front, lies_in}
use Rattle.build_image.specs.declared.Call.{Call}
use Rattle.build_image.specs.Sizes.{pad}
use Rattle.build_image.specs.Image.{first_of, index_recs, index_sums, index_slots, index_size, index_image, Borders}
use Rattle.build_image.proofs.Index.{length_index_slots, length_index}
use Rattle.law_history.specs.Rows.{Rows}
use Rattle.law_history.proofs.Rowing.{rows_say, slots_rise}
use Rattle.law_history.proofs.Boundaries.{Sheet, sheet_box, sheet_base, sheet_body, SheetFits, sheet_opens, slots_lie, lo_back, prefix_back, hi_back, more_lies}
use Rattle.law_index.specs.Children.{children_of, index_page, IndexFit}
use Rattle.law_index.proofs.Slots.{SaysChild, rows_index, children_rise, children_many, children_keys}

module _ (s : List ℕ) (m : Call) (b : Borders) (at : ℕ) (es : List Entry) (fit : IndexFit s m b at es) (lies : Lies s at (index_image m b es)) where
  abbrev size : ℕ
  size = index_size b es

  abbrev k : Sheet
  k = record { payload = size; size = size; count = length es; node = 2; index = 1; many = 0 }

  abbrev body : Body
  body = sheet_body m b at k

  abbrev slots : List ℕ
  slots = index_slots b.prefix (first_of b (length es)) es

  abbrev recs : List ℕ
  recs = index_recs b.prefix es

  size_is : size ≡ first_of b (length es) + index_sums b.prefix es
  unfolding index_size
  size_is = refl

  room : at + frame_len size ≤ length s
  room = let n = length_index m b es in omega (arith, lies_in s at (index_image m b es) (omega arith) lies)

  base_ok_lem : base_ok (sheet_box m k) (sheet_base b k) ≡ true
  unfolding base_ok
  base_ok_lem =
      rw (eq-eqb size size refl, le-leb (length b.lo) max_key fit.bounds.lo, le-leb (length b.hi) max_key fit.bounds.hi, le-leb b.prefix (length b.lo) fit.bounds.prefix, le-leb size size (omega arith), le-leb (first_of b (length es)) size (omega (arith, size_is))) refl

  sheet : SheetFits s m b at k
  sheet =
      record {
        address = fit.address;
        numbers = fit.numbers;
        bounds = fit.bounds;
        room = room;
        small = omega (arith, fit.small);
        sized = omega arith;
        holds = omega (arith, size_is);
        few = omega (arith, fit.few);
        low = omega arith;
        high = omega arith;
        kind = omega arith;
        multi = omega arith;
        ok = base_ok_lem;
      }

  long : length slots ≡ 4 * length es
  long = length_index_slots b.prefix (first_of b (length es)) es

  abbrev pre : List ℕ
  pre = take b.prefix b.lo

  is-pre : prefix_of s body ≡ pre
  unfolding index_image
  is-pre = prefix_back s m b at k sheet slots (recs ++ pad size) long lies

  rows : Rows (SaysChild s body) s body 0 body.first (children_of es)
  unfolding index_image body_of kind_of
  rows =
      let q : at + box_len + first_of b (length es) ≡ at + box_len + base_len + 4 * length es + length b.lo + length b.hi = omega arith in
      subst (λ (x : ℕ). Rows (SaysChild s body) s body 0 x (children_of es)) q
      (rows_index s body b.prefix pre refl refl is-pre (length-take-le b.prefix b.lo fit.bounds.prefix) (omega (arith, room)) (omega (arith, fit.small)) 0 (first_of b (length es)) es (omega arith) (omega arith) (omega (arith, size_is))
      fit.each fit.begins (slots_lie s m b at k sheet slots (recs ++ pad size) long lies)
      (lies_front s (at + box_len + first_of b (length es)) recs (pad size) (more_lies s m b at k sheet slots (recs ++ pad size) long lies)))

  abbrev keyed : Child → List ℕ
  keyed c = c.key

  slots_ok_lem : slots_ok s body ≡ true
  unfolding slots_ok body_of child_of
  slots_ok_lem =
      ap (λ (n : ℕ). slots_from s body n 0 body.first 0 0) (sym (children_many es))
      ∙ slots_rise (SaysChild s body) s body keyed (λ r c e. ap keyed e) body.first (children_of es) rows (children_rise es fit.each fit.rises)

  hints_ok_lem : hints_ok s body ≡ true
  unfolding hints_ok body_of
  hints_ok_lem = rw (eq-eqb (at + box_len + size) (at + box_len + size) refl) refl

  said : page_says s body ≡ index_page b es
  unfolding page_says index_page body_of kind_of index_image
  said =
      let r : rows_from (child_of s body) s body (length es) 0 ≡ children_of es =
      ap (λ (n : ℕ). rows_from (child_of s body) s body n 0) (sym (children_many es)) ∙ rows_say (SaysChild s body) s body (child_of s body) (λ x c e. e) 0 body.first (children_of es) rows in
      rw (is-pre, r, lo_back s m b at k sheet slots (recs ++ pad size) long lies, hi_back s m b at k sheet slots (recs ++ pad size) long lies) refl

  encloses : page_bounded (index_page b es) ≡ true
  unfolding index_page
  encloses = ap (bounded b.lo b.hi) (children_keys es) ∙ fit.encloses

  sound : sound_body s body ≡ true
  unfolding body_of kind_of
  sound = body-bounds s body (λ q. omega arith) true slots_ok_lem (chains_index s body refl) hints_ok_lem (ap page_bounded said ∙ encloses)

  -- what was built is what is read
  pub index_says : meaning s (addr at) ≡ says (index_page b es)
  unfolding meaning index_image
  index_says = rw (sheet_opens s m b at k sheet slots (recs ++ pad size) long lies, sound, said) refl
