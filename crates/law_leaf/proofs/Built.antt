-- The page that a leaf build wrote says exactly what the build was told: `leaf_says`.
-- Assumes nothing.
use Prim.Native.Nat.{ℕ, zero, suc, ◌+◌, ◌*◌, ◌-◌, ◌^◌, ◌≤◌, ◌<◌}
use mathlib.Core.Path.{◌≡◌, refl, sym, ap, ◌∙◌, subst}
use mathlib.Core.Bool.{Bool, true, false, cond, ◌&&◌, ◌||◌}
use mathlib.Core.List.{List, [], ◌∷◌, ◌++◌}
use native.Mathlib.Omega.{arith}
use borrow.Author.Tests.{le-leb, eq-eqb}
use lib.ListN.{length, take, replicate, length-replicate}
use lib.Seq.{length-take-le}
use lib.Dec.{eqb}
use Rattle.spans.specs.Span.{Lies}
use Rattle.spans.proofs.Lying.{lies_front, lies_back, lies_in}
use Rattle.order.specs.Bounds.{below_hi, bounded}
use Rattle.order.proofs.Bounds.{both, both_first, both_second}
use Rattle.frames.specs.declared.Body.{Body}
use Rattle.frames.specs.Layout.{addr, box_len, base_len, frame_len, base_ok, kind_of, body_of, open_at}
use Rattle.frames.specs.Stored.{page_bytes}
use Rattle.frames.specs.Limits.{max_key}
use Rattle.pages.specs.Sound.{slots_from, slots_ok, chains_from, chains_ok, hints_ok}
use Rattle.pages.specs.Meaning.{says, prefix_of, head_of, rows_from, page_says, page_bounded, sound_body, meaning}
use Rattle.pages.proofs.Turns.{body-bounds}
use Rattle.build_sources.specs.Source.{Entry, wanted, only, olds, heads}
use Rattle.build_sources.specs.Marks.{Each}
use Rattle.build_image.specs.declared.Call.{Call}
use Rattle.build_image.specs.Sizes.{pad, remotes_len}
use Rattle.build_image.specs.Image.{remote_frames, remote_addrs, history, history_end, starts, hist_addrs, PageSlot, places, head_recs, head_slots, hints, Borders, first_of, leaf_size, cuts_of, leaf_room, one_if, leaf_frame, leaf_image}
use Rattle.build_image.proofs.Lengths.{only-few}
use Rattle.build_image.proofs.Leaf.{length-history, length_head_slots, leaf_hints_fit, leaf_tail_fits, length_leaf_frame, length_leaf_image}
use Rattle.law_history.specs.Fit.{Fits, Address}
use Rattle.law_history.specs.Rows.{Rows, multis}
use Rattle.law_history.proofs.Rowing.{rows_say, slots_rise, chains_say}
use Rattle.law_history.proofs.Chain.{end-above, end-even, Whole, history_back}
use Rattle.law_history.proofs.Paging.{cuts_paged}
use Rattle.law_history.proofs.Boundaries.{Sheet, sheet_box, sheet_base, sheet_body, SheetFits, sheet_opens, slots_lie, lo_back, prefix_back, hi_back, more_lies}
use Rattle.law_leaf.specs.Grouped.{grouped, leaf_page, LeafFit}
use Rattle.law_leaf.proofs.Groups.{grouped-many, count_of, multis-is, ages, keyed, heads_rise, heads_in}
use Rattle.law_leaf.proofs.Slots.{SaysHead, Coming, rows_leaf}
use Rattle.law_leaf.proofs.Hints.{hints_back}
use Rattle.std.proofs.Common.{Some}

-- ---- what holds of all entries holds of the old ones, or the heads, alone

each_by : (t : Bool) {A : Type 0} (P : A → Type 0) (x : A) (xs : List A) → P x → Each P xs → Each P (cond t (x ∷ xs) xs)
unfolding Each
each_by true P x xs h k = (h, k)
each_by false P x xs h k = k

pub each-only : (P : Entry → Type 0) (b : Bool) (es : List Entry) → Each P es → Each P (only b es)
unfolding Each only
each-only P b [] h = tt
each-only P b (e ∷ es) h = each_by (wanted b e.old) P e (only b es) h.0 (each-only P b es h.1)

many_ok_lem : (n : ℕ) → (eqb (one_if n) 0 || (eqb (one_if n) 1 && true && true)) ≡ true
many_ok_lem zero = refl
many_ok_lem (suc n) = refl

one_most : (n : ℕ) → one_if n ≤ 1
one_most zero = omega arith
one_most (suc n) = omega arith

module _ (s : List ℕ) (m : Call) (b : Borders) (first : ℕ) (es : List Entry) (fit : LeafFit s m b first es) (lies : Lies s first (leaf_image m b first es)) where
  abbrev ns : List ℕ
  ns = cuts_of m es

  -- the page's address
  abbrev at : ℕ
  at = history_end m.limit first ns (olds es)

  abbrev size : ℕ
  size = leaf_size m b es

  abbrev room : ℕ
  room = leaf_room m es

  abbrev remote : ℕ
  remote = at + frame_len (size + room)

  abbrev ps : List PageSlot
  ps = places m.limit first ns (olds es)

  abbrev n : ℕ
  n = length (heads es)

  abbrev slots : List ℕ
  slots = head_slots m.limit b.prefix (first_of b n) es

  abbrev recs : List ℕ
  recs = head_recs m.limit b.prefix remote ps es

  abbrev tail : List ℕ
  tail = replicate (size - (first_of b n + length recs)) 0

  abbrev told : List ℕ
  told = hints room (starts m.limit first ns (olds es)) (hist_addrs m.limit first ns (olds es) ++ remote_addrs m.limit remote (heads es))

  abbrev more : List ℕ
  more = recs ++ (tail ++ (told ++ pad (size + room)))

  abbrev k : Sheet
  k = record { payload = size + room; size = size; count = n; node = 1; index = 0; many = one_if (length (olds es)) }

  abbrev pub body : Body
  body = sheet_body m b at k

  -- ---- places

  pub whole : remote + remotes_len m.limit (heads es) ≤ length s
  whole =
      let l = length_leaf_image m b first es in
      omega (arith, lies_in s first (leaf_image m b first es) (omega (arith, end-above m.limit ns first (olds es))) lies)

  address : Address s at
  address =
      record {
        above = omega (arith, fit.address.above, end-above m.limit ns first (olds es));
        even = end-even m.limit ns first (olds es) fit.address.even;
        word = fit.address.word;
      }

  history_lies : Lies s first (history m first ns (olds es))
  unfolding leaf_image
  history_lies = lies_front s first (history m first ns (olds es)) (leaf_frame m b first at es ++ remote_frames m (heads es)) lies

  rest_lies : Lies s at (leaf_frame m b first at es ++ remote_frames m (heads es))
  unfolding leaf_image
  rest_lies = rw (length-history m ns first (olds es)) at (lies_back s first (history m first ns (olds es)) (leaf_frame m b first at es ++ remote_frames m (heads es)) lies)

  frame_lies : Lies s at (page_bytes (sheet_box m k) (sheet_base b k) ++ (slots ++ (b.lo ++ (b.hi ++ more))))
  unfolding leaf_frame
  frame_lies = lies_front s at (leaf_frame m b first at es) (remote_frames m (heads es)) rest_lies

  frames_lie : Lies s remote (remote_frames m (heads es))
  frames_lie = rw (length_leaf_frame m b first at es) at (lies_back s at (leaf_frame m b first at es) (remote_frames m (heads es)) rest_lies)

  history-is : Whole s m.limit first ns (olds es)
  history-is =
      history_back s m fit.call ns first (olds es) fit.address (cuts_paged m fit.call (olds es)) (each-only (Fits s) true es fit.each) (omega (arith, whole)) history_lies

  -- ---- the page

  holds : first_of b n + length recs ≤ size
  holds = leaf_tail_fits m b remote ps es

  base_ok_lem : base_ok (sheet_box m k) (sheet_base b k) ≡ true
  unfolding base_ok
  base_ok_lem =
      rw (
        many_ok_lem (length (olds es)),
        le-leb (length b.lo) max_key fit.bounds.lo,
        le-leb (length b.hi) max_key fit.bounds.hi,
        le-leb b.prefix (length b.lo) fit.bounds.prefix,
        le-leb size (size + room) (omega arith),
        le-leb (first_of b n) size (omega (arith, holds)),
      )
      refl

  sheet : SheetFits s m b at k
  sheet =
      record {
        address = address;
        numbers = fit.call.numbers;
        bounds = fit.bounds;
        room = omega (arith, whole);
        small = omega (arith, fit.small);
        sized = omega arith;
        holds = omega (arith, holds);
        few = omega (arith, fit.few, only-few false es);
        low = omega arith;
        high = omega arith;
        kind = omega arith;
        multi = one_most (length (olds es));
        ok = base_ok_lem;
      }

  long : length slots ≡ 4 * n
  long = length_head_slots m.limit b.prefix es (first_of b n)

  abbrev pre : List ℕ
  pre = take b.prefix b.lo

  pub leaf_opens : open_at s (addr at) ≡ Some body
  leaf_opens = sheet_opens s m b at k sheet slots more long frame_lies

  is-pre : prefix_of s body ≡ pre
  is-pre = prefix_back s m b at k sheet slots more long frame_lies

  more_lie : Lies s (at + box_len + first_of b n) more
  more_lie = more_lies s m b at k sheet slots more long frame_lies

  pub kind-is : body.kind ≡ 0
  unfolding body_of kind_of
  kind-is = refl

  cut_is : body.prefix_len ≡ b.prefix
  unfolding body_of
  cut_is = refl

  wide : length pre ≡ b.prefix
  wide = length-take-le b.prefix b.lo fit.bounds.prefix

  ends : body.end ≤ length s
  unfolding body_of
  ends = omega (arith, whole)

  short : body.end < body.at + 256 ^ 4
  unfolding body_of
  short = omega (arith, fit.small)

  coming : Coming s m body b.prefix pre fit.call kind-is cut_is is-pre wide ends short 0 (first_of b n) remote ps es
  unfolding body_of
  coming =
      record {
        count = omega arith;
        low = omega arith;
        high = omega (arith, holds);
        each = fit.each;
        begins = fit.begins;
        told = history-is.told;
        ages = ages es fit.rises fit.marks;
        few = omega (arith, fit.few);
        address = record { above = omega (arith, address.above); even = omega (arith, address.even); word = address.word };
        room = whole;
        slots = slots_lie s m b at k sheet slots more long frame_lies;
        recs = lies_front s (at + box_len + first_of b n) recs (tail ++ (told ++ pad (size + room))) more_lie;
        frames = frames_lie;
      }

  rows : Rows (SaysHead s body) s body 0 body.first (grouped es)
  unfolding body_of
  rows =
      let q : at + box_len + first_of b n ≡ at + box_len + base_len + 4 * n + length b.lo + length b.hi = omega arith in
      subst (λ (x : ℕ). Rows (SaysHead s body) s body 0 x (grouped es)) q (rows_leaf s m body b.prefix pre fit.call kind-is cut_is is-pre wide ends short es 0 (first_of b n) remote ps coming)

  -- ---- sound

  slots_ok_lem : slots_ok s body ≡ true
  unfolding slots_ok body_of head_of
  slots_ok_lem =
      ap (λ (x : ℕ). slots_from s body x 0 body.first 0 0) (sym (grouped-many es))
      ∙ slots_rise (SaysHead s body) s body keyed (λ r h e. ap keyed e.head) body.first (grouped es) rows (heads_rise es fit.rises fit.marks)

  chains_ok_lem : chains_ok s body ≡ true
  unfolding chains_ok body_of kind_of
  chains_ok_lem =
      ap (λ (x : ℕ). chains_from s body x 0 0) (sym (grouped-many es))
      ∙ chains_say (SaysHead s body) s body count_of (λ r h e. (e.ok, e.count)) 0 body.first 0 (grouped es) rows
      ∙ eq-eqb (multis count_of 0 (grouped es)) (one_if (length (olds es))) (multis-is es fit.marks)

  pub hints_lie : Lies s (at + box_len + size) told
  hints_lie =
      let y : at + box_len + first_of b n + length recs + length tail ≡ at + box_len + size = omega (arith, holds, length-replicate {A = ℕ} (size - (first_of b n + length recs)) 0) in
      let a = lies_back s (at + box_len + first_of b n) recs (tail ++ (told ++ pad (size + room))) more_lie in
      let c : Lies s (at + box_len + size) (told ++ pad (size + room)) = rw y at (lies_back s (at + box_len + first_of b n + length recs) tail (told ++ pad (size + room)) a) in
      lies_front s (at + box_len + size) told (pad (size + room)) c

  hints_ok_lem : hints_ok s body ≡ true
  unfolding body_of
  hints_ok_lem =
      hints_back s body room (starts m.limit first ns (olds es)) (hist_addrs m.limit first ns (olds es) ++ remote_addrs m.limit remote (heads es)) (omega arith) (omega (arith, fit.small)) (leaf_hints_fit m es first remote) hints_lie

  said : page_says s body ≡ leaf_page b es
  unfolding page_says leaf_page body_of kind_of
  said =
      let r : rows_from (head_of s body) s body n 0 ≡ grouped es =
      ap (λ (x : ℕ). rows_from (head_of s body) s body x 0) (sym (grouped-many es)) ∙ rows_say (SaysHead s body) s body (head_of s body) (λ x h e. e.head) 0 body.first (grouped es) rows in
      rw (is-pre, r, lo_back s m b at k sheet slots more long frame_lies, hi_back s m b at k sheet slots more long frame_lies) refl

  encloses : page_bounded (leaf_page b es) ≡ true
  unfolding leaf_page bounded
  encloses = both (below_hi b.lo b.hi) _ (both_first (below_hi b.lo b.hi) _ fit.encloses) (heads_in b.lo b.hi es (both_second (below_hi b.lo b.hi) _ fit.encloses))

  sound : sound_body s body ≡ true
  sound = body-bounds s body (λ q. omega (arith, kind-is)) true slots_ok_lem chains_ok_lem hints_ok_lem (ap page_bounded said ∙ encloses)

  -- what was built is what is read
  pub leaf_says : meaning s (addr (history_end m.limit first (cuts_of m es) (olds es))) ≡ says (leaf_page b es)
  unfolding meaning
  leaf_says = rw (leaf_opens, sound, said) refl
