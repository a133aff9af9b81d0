-- A history page that lies in the arena opens, holds its old versions slot by slot, and is whole.
-- Assumes nothing.
use Prim.Native.Nat.{ℕ, ◌+◌, ◌*◌, ◌-◌, ◌%◌, ◌^◌, ◌≤◌, ◌<◌}
use mathlib.Core.Path.{◌≡◌, refl, subst}
use mathlib.Core.Bool.{true, ◌||◌}
use mathlib.Core.List.{List, ◌++◌}
use native.Mathlib.Omega.{arith}
use borrow.Author.Tests.{le-leb, eq-eqb}
use lib.ListN.{length}
use lib.Dec.{ltb, eqb}
use Rattle.spans.specs.Span.{Lies}
use Rattle.spans.proofs.Lying.{lies_front, lies_back, lies_in}
use Rattle.frames.specs.declared.BoxHeader.{BoxHeader}
use Rattle.frames.specs.declared.BaseHeader.{BaseHeader}
use Rattle.frames.specs.declared.Body.{Body}
use Rattle.frames.specs.Layout.{box_len, base_len, slots_at, box_base, node_leaf, flag_sibling, addr, frame_len, box_ok, base_ok, kind_of, body_of, open_at}
use Rattle.frames.specs.Stored.{box_bytes, base_bytes, base_of}
use Rattle.frames.proofs.Stores.{BaseFits, base_of_fits, box_of_heads, base_of_heads}
use Rattle.build_sources.specs.Source.{Entry}
use Rattle.build_sources.specs.Marks.{Each}
use Rattle.pages.specs.Sound.{slots_ok, history_at, hist_ok}
use Rattle.build_image.specs.declared.Call.{Call}
use Rattle.build_image.specs.Sizes.{pad, remotes_len}
use Rattle.build_image.specs.Image.{page_box, remote_frames, old_recs, old_slots, hist_head, hist_size, hist_page, page_end}
use Rattle.build_image.proofs.Lengths.{length-pad, length-slots, length-recs, length_hist_head, length-page}
use Rattle.law_history.specs.Fit.{Fits, CallFits, Address}
use Rattle.law_history.specs.Rows.{Rows}
use Rattle.law_history.proofs.Opening.{box_fits, open_back}
use Rattle.law_history.proofs.Rowing.{slots-old}
use Rattle.law_history.proofs.Page.{SaysOld, rows-old}
use Rattle.std.proofs.Common.{Some}

-- what a page needs: "no history page is empty", its count and size have their widths, "links go to higher addresses"
pub record PageFits (limit at link : ℕ) (es : List Entry) : Type 0 where
  pub some : 1 ≤ length es
  pub few : length es < 256 ^ 2
  pub size : hist_size limit es < 256 ^ 4
  pub upward : (eqb link 0 || ltb at link) ≡ true
  pub word : link < 256 ^ 8

abbrev pub hist_box : Call → ℕ → List Entry → BoxHeader
hist_box m link es = page_box m (hist_size m.limit es) node_leaf flag_sibling link

abbrev pub hist_base : Call → List Entry → BaseHeader
hist_base m es = base_of (hist_size m.limit es) (length es) 0 0 0 0 0 0

abbrev pub hist_body : Call → ℕ → ℕ → List Entry → Body
hist_body m at link es = body_of (addr at) (hist_box m link es) (hist_base m es)

module _ (s : List ℕ) (m : Call) (at link : ℕ) (es : List Entry) (w : CallFits m) (ad : Address s at) (pf : PageFits m.limit at link es) (each : Each (Fits s) es) (lies : Lies s at (hist_page m at link es)) where
  abbrev size : ℕ
  size = hist_size m.limit es

  abbrev slots : List ℕ
  slots = old_slots m.limit (base_len + 4 * length es) es

  abbrev recs : List ℕ
  recs = old_recs m.limit (at + frame_len size) es

  -- ---- places

  size_is : size ≡ base_len + 4 * length es + length recs
  unfolding hist_size
  size_is = omega (arith, length-recs m.limit (at + frame_len size) es)

  whole : at + frame_len size + remotes_len m.limit es ≤ length s
  unfolding page_end
  whole = let p = length-page m at link es in omega (arith, lies_in s at (hist_page m at link es) (omega arith) lies)

  head_lies : Lies s at (hist_head m link (length es) size)
  unfolding hist_page
  head_lies = lies_front s at (hist_head m link (length es) size) (slots ++ (recs ++ (pad size ++ remote_frames m es))) lies

  rest_lies : Lies s (at + slots_at) (slots ++ (recs ++ (pad size ++ remote_frames m es)))
  unfolding hist_page
  rest_lies = rw (length_hist_head m link (length es) size) at (lies_back s at (hist_head m link (length es) size) (slots ++ (recs ++ (pad size ++ remote_frames m es))) lies)

  slots_lie : Lies s (at + slots_at) slots
  slots_lie = lies_front s (at + slots_at) slots (recs ++ (pad size ++ remote_frames m es)) rest_lies

  back_lies : Lies s (at + slots_at + 4 * length es) (recs ++ (pad size ++ remote_frames m es))
  back_lies = rw (length-slots m.limit (base_len + 4 * length es) es) at (lies_back s (at + slots_at) slots (recs ++ (pad size ++ remote_frames m es)) rest_lies)

  recs_lie : Lies s (at + slots_at + 4 * length es) recs
  recs_lie = lies_front s (at + slots_at + 4 * length es) recs (pad size ++ remote_frames m es) back_lies

  remotes_lie : Lies s (at + frame_len size) (remote_frames m es)
  remotes_lie =
      let z : at + slots_at + 4 * length es + length recs ≡ at + box_len + size = omega (arith, size_is) in
      let y : at + box_len + size + length (pad size) ≡ at + frame_len size = omega (arith, length-pad size) in
      let t : Lies s (at + box_len + size) (pad size ++ remote_frames m es) = rw z at (lies_back s (at + slots_at + 4 * length es) recs (pad size ++ remote_frames m es) back_lies) in
      rw y at (lies_back s (at + box_len + size) (pad size) (remote_frames m es) t)

  -- ---- headers

  abbrev x : BoxHeader
  x = hist_box m link es

  abbrev h : BaseHeader
  h = hist_base m es

  abbrev body : Body
  body = hist_body m at link es

  box_lies : Lies s at (box_bytes x)
  unfolding hist_head
  box_lies = box_of_heads s at x h head_lies

  base_lies : Lies s (at + box_len) (base_bytes h)
  unfolding hist_head
  base_lies = base_of_heads s at x h head_lies

  box_ok_lem : box_ok x at (length s) ≡ true
  unfolding box_ok
  box_ok_lem = rw (le-leb 8 at ad.above, eq-eqb (at % 8) 0 ad.even, pf.upward, le-leb (at + frame_len size) (length s) (omega (arith, whole))) refl

  base_ok_lem : base_ok x h ≡ true
  unfolding base_ok
  base_ok_lem = rw (le-leb 1 (length es) pf.some, eq-eqb size size refl, le-leb size size (omega arith), le-leb (base_len + 4 * length es + 0 + 0) size (omega (arith, size_is))) refl

  base_fits : BaseFits h
  base_fits = base_of_fits size (length es) 0 0 0 0 0 0 pf.size pf.few (omega arith) (omega arith) (omega arith) (omega arith) (omega arith) (omega arith)

  pub hist_opens : open_at s (addr at) ≡ Some body
  hist_opens =
      open_back s at x (box_fits m size box_base node_leaf flag_sibling link m.txid w.numbers pf.size (omega arith) (omega arith) (omega arith) pf.word w.numbers.txid) box_lies (omega (arith, whole)) box_ok_lem
      h base_fits base_lies refl (omega (arith, size_is)) base_ok_lem

  pub hist_at_lem : history_at s (addr at) ≡ Some body
  unfolding history_at body_of kind_of
  hist_at_lem = rw hist_opens refl

  -- ---- records

  pub hist_rows : Rows (SaysOld s) s body 0 body.first es
  unfolding body_of kind_of
  hist_rows =
      let q : at + box_len + (base_len + 4 * length es) ≡ at + box_len + base_len + 4 * length es + 0 + 0 = omega arith in
      let y : at + slots_at ≡ at + box_len + base_len + 4 * 0 = omega arith in
      let z : at + slots_at + 4 * length es ≡ at + box_len + (base_len + 4 * length es) = omega arith in
      subst (λ (k : ℕ). Rows (SaysOld s) s body 0 k es) q
      (rows-old s m body w refl refl (omega (arith, whole)) (omega (arith, pf.size)) 0 (base_len + 4 * length es) (at + frame_len size) es (omega arith) (omega arith) (omega (arith, size_is)) each
      (record { above = omega (arith, ad.above); even = omega (arith, ad.even); word = ad.word }) whole (rw y at slots_lie) (rw z at recs_lie) remotes_lie)

  pub hist_whole : hist_ok s (addr at) ≡ true
  unfolding hist_ok slots_ok body_of kind_of
  hist_whole = rw hist_at_lem (slots-old (SaysOld s) s body refl 0 body.first 0 0 es hist_rows)
