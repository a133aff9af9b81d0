-- A leaf or index page that lies in the arena opens, and its boundaries, prefix, slots and records stand where its header says.
-- Assumes nothing.
use Prim.Native.Nat.{ℕ, ◌+◌, ◌*◌, ◌-◌, ◌%◌, ◌^◌, ◌≤◌, ◌<◌}
use mathlib.Core.Path.{◌≡◌, refl, sym}
use mathlib.Core.Bool.{true}
use mathlib.Core.List.{List, ◌++◌}
use native.Mathlib.Omega.{arith}
use borrow.Author.Tests.{le-leb, eq-eqb}
use lib.ListN.{length, take, drop, take-append-drop}
use lib.Seq.{length-take-le}
use Rattle.spans.specs.Span.{part, Lies}
use Rattle.spans.proofs.Lying.{lies_front, lies_back, lies_part}
use Rattle.frames.specs.declared.BoxHeader.{BoxHeader}
use Rattle.frames.specs.declared.BaseHeader.{BaseHeader}
use Rattle.frames.specs.declared.Body.{Body}
use Rattle.frames.specs.Layout.{box_len, base_len, box_base, node_leaf, node_index, addr, frame_len, box_ok, base_ok, body_of, open_at}
use Rattle.frames.specs.Stored.{page_bytes, base_of}
use Rattle.frames.proofs.Stores.{BaseFits, base_of_fits, length-heads, box_of_heads, base_of_heads}
use Rattle.pages.specs.Meaning.{prefix_of}
use Rattle.build_image.specs.declared.Call.{Call}
use Rattle.build_image.specs.Image.{page_box, first_of, Borders}
use Rattle.law_history.specs.Fit.{Numbers, BoundsFit, Address}
use Rattle.law_history.proofs.Opening.{box_fits, open_back}
use Rattle.std.proofs.Common.{Some}

-- the front of what lies there
pub lies_first : (s : List ℕ) (at n : ℕ) (x : List ℕ) → n ≤ length x → Lies s at x → part s at n ≡ take n x
lies_first s at n x h l =
    lies_part s at n (take n x) (sym (length-take-le n x h)) (lies_front s at (take n x) (drop n x) (rw (← take-append-drop n x) at l))

-- which page: its payload, size, count, kind and has_multiple_versions
pub record Sheet : Type 0 where
  pub payload : ℕ
  pub size : ℕ
  pub count : ℕ
  pub node : ℕ
  pub index : ℕ
  pub many : ℕ

abbrev pub sheet_box : Call → Sheet → BoxHeader
sheet_box m k = page_box m k.payload k.node 0 0

abbrev pub sheet_base : Borders → Sheet → BaseHeader
sheet_base b k = base_of k.size k.count b.sibling (length b.lo) (length b.hi) b.prefix k.index k.many

abbrev pub sheet_body : Call → Borders → ℕ → Sheet → Body
sheet_body m b at k = body_of (addr at) (sheet_box m k) (sheet_base b k)

pub record SheetFits (s : List ℕ) (m : Call) (b : Borders) (at : ℕ) (k : Sheet) : Type 0 where
  pub address : Address s at
  pub numbers : Numbers m
  pub bounds : BoundsFit b
  pub room : at + frame_len k.payload ≤ length s
  pub small : k.payload < 256 ^ 4
  pub sized : k.size ≤ k.payload
  pub holds : first_of b k.count ≤ k.size
  pub few : k.count < 256 ^ 2
  pub low : node_leaf ≤ k.node
  pub high : k.node ≤ node_index
  pub kind : k.index ≤ 1
  pub multi : k.many ≤ 1
  pub ok : base_ok (sheet_box m k) (sheet_base b k) ≡ true

module _ (s : List ℕ) (m : Call) (b : Borders) (at : ℕ) (k : Sheet) (f : SheetFits s m b at k) (slots more : List ℕ) (long : length slots ≡ 4 * k.count)
    (lies : Lies s at (page_bytes (sheet_box m k) (sheet_base b k) ++ (slots ++ (b.lo ++ (b.hi ++ more))))) where
  abbrev x : BoxHeader
  x = sheet_box m k

  abbrev h : BaseHeader
  h = sheet_base b k

  abbrev body : Body
  body = sheet_body m b at k

  box_ok_lem : box_ok x at (length s) ≡ true
  unfolding box_ok
  box_ok_lem =
      rw (le-leb 8 at f.address.above, eq-eqb (at % 8) 0 f.address.even, le-leb node_leaf k.node f.low, le-leb k.node node_index f.high, le-leb (at + frame_len k.payload) (length s) f.room) refl

  heads_lie : Lies s at (page_bytes x h)
  heads_lie = lies_front s at (page_bytes x h) (slots ++ (b.lo ++ (b.hi ++ more))) lies

  base_fits : BaseFits h
  base_fits =
      let u = f.bounds in
      base_of_fits k.size k.count b.sibling (length b.lo) (length b.hi) b.prefix k.index k.many (omega (arith, f.small, f.sized)) f.few u.sibling (omega (arith, u.lo)) (omega (arith, u.hi))
      (omega (arith, u.prefix, u.lo)) (omega (arith, f.kind)) (omega (arith, f.multi))

  pub sheet_opens : open_at s (addr at) ≡ Some body
  sheet_opens =
      open_back s at x (box_fits m k.payload box_base k.node 0 0 m.txid f.numbers f.small (omega arith) (omega (arith, f.high)) (omega arith) (omega arith) f.numbers.txid) (box_of_heads s at x h heads_lie) (omega (arith, f.room)) box_ok_lem
      h base_fits (base_of_heads s at x h heads_lie) refl (omega (arith, f.sized, f.holds)) f.ok

  rest_lies : Lies s (at + box_len + base_len) (slots ++ (b.lo ++ (b.hi ++ more)))
  rest_lies =
      let z : at + length (page_bytes x h) ≡ at + box_len + base_len = omega (arith, length-heads x h) in
      rw z at (lies_back s at (page_bytes x h) (slots ++ (b.lo ++ (b.hi ++ more))) lies)

  pub slots_lie : Lies s (at + box_len + base_len + 4 * 0) slots
  slots_lie = let z : at + box_len + base_len ≡ at + box_len + base_len + 4 * 0 = omega arith in rw z at (lies_front s (at + box_len + base_len) slots (b.lo ++ (b.hi ++ more)) rest_lies)

  abbrev lo_at_lem : ℕ
  lo_at_lem = at + box_len + base_len + 4 * k.count

  boundaries_lie : Lies s lo_at_lem (b.lo ++ (b.hi ++ more))
  boundaries_lie = rw long at (lies_back s (at + box_len + base_len) slots (b.lo ++ (b.hi ++ more)) rest_lies)

  lo_lies : Lies s lo_at_lem b.lo
  lo_lies = lies_front s lo_at_lem b.lo (b.hi ++ more) boundaries_lie

  pub lo_back : part s lo_at_lem (length b.lo) ≡ b.lo
  lo_back = lies_part s lo_at_lem (length b.lo) b.lo refl lo_lies

  pub prefix_back : prefix_of s body ≡ take b.prefix b.lo
  unfolding prefix_of body_of
  prefix_back = lies_first s lo_at_lem b.prefix b.lo f.bounds.prefix lo_lies

  hi_lies : Lies s (lo_at_lem + length b.lo) (b.hi ++ more)
  hi_lies = lies_back s lo_at_lem b.lo (b.hi ++ more) boundaries_lie

  pub hi_back : part s (lo_at_lem + length b.lo) (length b.hi) ≡ b.hi
  hi_back = lies_part s (lo_at_lem + length b.lo) (length b.hi) b.hi refl (lies_front s (lo_at_lem + length b.lo) b.hi more hi_lies)

  pub more_lies : Lies s (at + box_len + first_of b k.count) more
  more_lies =
      let z : lo_at_lem + length b.lo + length b.hi ≡ at + box_len + first_of b k.count = omega arith in
      rw z at (lies_back s (lo_at_lem + length b.lo) b.hi more hi_lies)
