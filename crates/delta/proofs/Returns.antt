-- What a call wrote reads back, at the address that it answered: over any buffer in which the call's bytes lie, and on the arena that the call leaves.
-- Assumes nothing.
use mathlib.Core.Path.{◌≡◌, refl, ap, ◌∙◌, subst}
use mathlib.Core.List.{List}
use Prim.Native.Nat.{ℕ, ◌+◌, ◌%◌, ◌^◌, ◌≤◌, ◌<◌}
use native.Mathlib.Omega.{arith}
use native.Mathlib.Decide.{dec_le}
use native.Mathlib.Nat.{lt_of_not-le}
use borrow.Author.Tests.{lt-ltb, le-ltb, leb-true}
use lib.ListN.{length}
use Rattle.spans.specs.Span.{put, Lies}
use Rattle.spans.proofs.Put.{length-put}
use Rattle.spans.proofs.Lying.{lies_front, lies_back, put_lies}
use Rattle.numbers.specs.Number.{le}
use Rattle.numbers.proofs.Numbers.{length-le}
use Rattle.order.specs.declared.Ver.{Ver}
use Rattle.frames.specs.declared.Addr.{Addr}
use Rattle.frames.specs.declared.PageId.{PageId}
use Rattle.frames.specs.Layout.{addr, frame_len}
use Rattle.frames.specs.Limits.{max_key, max_limit, max_value}
use Rattle.values.specs.Keys.{leaf_key, index_key}
use Rattle.values.specs.Vals.{no_hist, inline_bytes, remote_bytes}
use Rattle.values.proofs.KeysBack.{SmallVer}
use Rattle.values.proofs.Laws.{leaf_key-size_lem, index_key-size_lem}
use Rattle.build_image.specs.declared.Call.{Call}
use Rattle.build_image.specs.Sizes.{remote_len}
use Rattle.build_image.specs.Image.{remote_frame}
use Rattle.build_image.proofs.Lengths.{size-some}
use Rattle.delta.specs.Deltas.{value_of, remote_of, delta_frame, leaf_frame, index_frame, leaf_delta, index_len}
use Rattle.build_image.specs.Call.{built_number}
use Rattle.build_image.proofs.Tables.{All}
use Rattle.delta.specs.Built.{leaf_built, leaf_arena, index_rows, index_built, index_arena, leaf_at, leaf_end, leaf_rows}
use Rattle.delta.specs.Read.{child_at}
use Rattle.delta.proofs.Lengths.{length-value, length-remote_of, length-frame, leaf_key_most, index_key_most, length_leaf_frame, length_index_frame, length_leaf_delta}
use Rattle.build_image.proofs.Asked.{limit_true, next_true}
use Rattle.delta.proofs.Verdict.{lengths_true, leaf_fits, index_fits}
use Rattle.delta.proofs.Exactly.{leaf_accepted, index_accepted}
use Rattle.delta.proofs.Back.{Small, ReadsKey, ReadsIndexKey, ReadsValue, key_back, index_key_back, child_back, inline_value_back, remote-value_back}
use Rattle.std.proofs.Common.{Ok}

-- what an accepted leaf delta is: its fields fit, its lengths are within the table's, it stands at a frame's place and in the buffer
pub record LeafFit (s : List ℕ) (m : Call) (next : ℕ) (ver : Ver) (key v : List ℕ) : Type 0 where
  pub carried : Small m
  pub version : SmallVer ver
  pub limit : m.limit ≤ max_limit
  pub key-small : length key ≤ max_key
  pub val-small : length v ≤ max_value
  pub above : 8 ≤ next
  pub even : next % 8 ≡ 0
  pub room : next + length (leaf_delta m next ver key v) ≤ length s
  pub here : next < 256 ^ 8

module _ (s : List ℕ) (m : Call) (next : ℕ) (ver : Ver) (key v : List ℕ) (f : LeafFit s m next ver key v) (lies : Lies s next (leaf_delta m next ver key v)) where
  abbrev at : ℕ
  at = next + remote_len m.limit (length v) 0

  size : length (leaf_key ver key) + length (value_of m.limit next v) ≤ 1000000
  size = omega (arith, leaf_key-size_lem ver key, leaf_key_most (length key), length-value m.limit next v, (size-some m.limit (length v)).1, f.key-small, f.limit)

  frame_lies : Lies s at (delta_frame m 1 (leaf_key ver key) (value_of m.limit next v))
  unfolding leaf_delta leaf_frame
  frame_lies = subst (λ (k : ℕ). Lies s (next + k) (leaf_frame m next ver key v)) (length-remote_of m v) (lies_back s next (remote_of m v) (leaf_frame m next ver key v) lies)

  remote_lies : Lies s next (remote_of m v)
  unfolding leaf_delta
  remote_lies = lies_front s next (remote_of m v) (leaf_frame m next ver key v) lies

  frame-room : at + frame_len (8 + length (leaf_key ver key) + length (value_of m.limit next v)) ≤ length s
  unfolding leaf_frame
  frame-room = omega (arith, f.room, length_leaf_delta m next ver key v, length_leaf_frame m next ver key v, length-frame m 1 (leaf_key ver key) (value_of m.limit next v))

  near-at : length v < m.limit → remote_len m.limit (length v) 0 ≡ 0
  unfolding remote_len
  near-at h = rw (lt-ltb (length v) m.limit h) refl

  away-at : m.limit ≤ length v → remote_len m.limit (length v) 0 ≡ frame_len (8 + length v)
  unfolding remote_len
  away-at h = rw (le-ltb (length v) m.limit h) refl

  at-even : at % 8 ≡ 0
  at-even =
      elim (dec_le m.limit (length v)) [
        | yes h ↦ let e = away-at h in omega (arith, e, f.even)
        | no h ↦ let e = near-at (lt_of_not-le h) in omega (arith, e, f.even)
      ]

  -- the key
  pub leaf_reads_key : ReadsKey s at ver key
  leaf_reads_key = key_back s at m ver key (value_of m.limit next v) f.carried f.version (omega (arith, f.above)) at-even f.key-small size frame-room frame_lies

  -- the value
  near-is : length v < m.limit → value_of m.limit next v ≡ inline_bytes no_hist v
  unfolding value_of
  near-is h = rw (lt-ltb (length v) m.limit h) refl

  away-is : m.limit ≤ length v → value_of m.limit next v ≡ remote_bytes no_hist (length v) next
  unfolding value_of
  away-is h = rw (le-ltb (length v) m.limit h) refl

  remote-is : m.limit ≤ length v → remote_of m v ≡ remote_frame m v
  unfolding remote_of
  remote-is h = rw (le-ltb (length v) m.limit h) refl

  pub leaf_reads_value : ReadsValue s at v
  leaf_reads_value =
      elim (dec_le m.limit (length v)) [
        | no h ↦
            let e = near-is (lt_of_not-le h) in
            inline_value_back s at m (leaf_key ver key) v f.carried (omega (arith, f.above)) at-even f.val-small (rw e at size) (rw e at frame-room) (rw e at frame_lies)
        | yes h ↦
            let e = away-is h in
            let g = remote-is h in
            remote-value_back s at next m (leaf_key ver key) v f.carried (omega (arith, f.above)) at-even f.val-small (rw e at size) (rw e at frame-room) (rw e at frame_lies) f.above f.even f.here
            (omega (arith, f.room, length_leaf_delta m next ver key v, away-at h)) (rw g at remote_lies)
      ]

-- ---- an index delta

pub record IndexFit (s : List ℕ) (m : Call) (next : ℕ) (key : List ℕ) (page : PageId) : Type 0 where
  pub carried : Small m
  pub page-fits : page.0 < 256 ^ 8
  pub key-small : length key ≤ max_key
  pub above : 8 ≤ next
  pub even : next % 8 ≡ 0
  pub room : next + length (index_frame m key page) ≤ length s

module _ (s : List ℕ) (m : Call) (next : ℕ) (key : List ℕ) (page : PageId) (f : IndexFit s m next key page) (lies : Lies s next (index_frame m key page)) where
  index_size_lem : length (index_key key) + length (le 8 page.0) ≤ 1000000
  index_size_lem = omega (arith, index_key-size_lem key, index_key_most (length key), length-le 8 page.0, f.key-small)

  index_lies : Lies s next (delta_frame m 2 (index_key key) (le 8 page.0))
  unfolding index_frame
  index_lies = lies

  index_room : next + frame_len (8 + length (index_key key) + length (le 8 page.0)) ≤ length s
  unfolding index_frame
  index_room = omega (arith, f.room, length-frame m 2 (index_key key) (le 8 page.0))

  pub index_reads_key : ReadsIndexKey s next key
  index_reads_key = index_key_back s next m key page f.carried f.page-fits f.above f.even f.key-small index_size_lem index_room index_lies

  pub index_reads_page : child_at s (addr next) ≡ Ok page
  index_reads_page = child_back s next m key page f.carried f.page-fits f.above f.even f.key-small index_size_lem index_room index_lies

-- ---- on the arena that the call leaves: an accepted call's delta reads back at the address that it answered

module _ (a : List ℕ) (m : Call) (next : ℕ) (ver : Ver) (key v : List ℕ) (x : Addr) (n : ℕ) (w : Small m) (wv : SmallVer ver) (long : length a < 256 ^ 8)
    (e : leaf_built m (length a) next (length key) (length v) ≡ Ok (x, n)) where
  abbrev after : List ℕ
  after = put a next (leaf_delta m next ver key v)

  passed : All (leaf_rows m (length a) next (length key) (length v))
  passed = (leaf_accepted m (length a) next (length key) (length v)).0 (ap built_number e)

  fits : leaf_end m next (length key) (length v) ≤ length a
  fits = leb-true (leaf_end m next (length key) (length v)) (length a) passed.1.1.1.0

  left : (Ok (addr (leaf_at m next (length v)), leaf_end m next (length key) (length v)) ≡ leaf_built m (length a) next (length key) (length v)) × (after ≡ leaf_arena m a next ver key v)
  left = leaf_fits m a next ver key v passed.0 passed.1.0 passed.1.1.0 fits

  stands : leaf_at m next (length v) ≡ x.0
  stands =
      let q = left.0 ∙ e in
      let y : addr (leaf_at m next (length v)) ≡ x = grind arith in
      ap (λ (b : Addr). b.0) y

  leaf_fit : LeafFit after m next ver key v
  leaf_fit =
      let r = next_true (length a) next passed.1.0 in
      let l = lengths_true (length key) (length v) passed.1.1.0 in
      record {
        carried = w;
        version = wv;
        limit = (limit_true m.limit passed.0).1;
        key-small = l.0;
        val-small = l.1;
        above = r.0;
        even = r.1;
        room = omega (arith, length-put a next (leaf_delta m next ver key v), length_leaf_delta m next ver key v, fits);
        here = omega (arith, r.2, long);
      }

  leaf_lies : Lies after next (leaf_delta m next ver key v)
  leaf_lies = put_lies a next (leaf_delta m next ver key v) (omega (arith, length_leaf_delta m next ver key v, fits))

  pub leaf_call-key : ReadsKey (leaf_arena m a next ver key v) x.0 ver key
  leaf_call-key = subst (λ (s : List ℕ). ReadsKey s x.0 ver key) left.1 (subst (λ (k : ℕ). ReadsKey after k ver key) stands (leaf_reads_key after m next ver key v leaf_fit leaf_lies))

  pub leaf_call-value : ReadsValue (leaf_arena m a next ver key v) x.0 v
  leaf_call-value = subst (λ (s : List ℕ). ReadsValue s x.0 v) left.1 (subst (λ (k : ℕ). ReadsValue after k v) stands (leaf_reads_value after m next ver key v leaf_fit leaf_lies))

module _ (a : List ℕ) (m : Call) (next : ℕ) (key : List ℕ) (page : PageId) (x : Addr) (n : ℕ) (w : Small m) (wp : page.0 < 256 ^ 8) (e : index_built (length a) next (length key) ≡ Ok (x, n)) where
  abbrev index_after : List ℕ
  index_after = put a next (index_frame m key page)

  index_passed : All (index_rows (length a) next (length key))
  index_passed = (index_accepted (length a) next (length key)).0 (ap built_number e)

  index_room' : next + index_len (length key) ≤ length a
  index_room' = leb-true (next + index_len (length key)) (length a) index_passed.1.1.0

  index_left_lem : (Ok (addr next, next + index_len (length key)) ≡ index_built (length a) next (length key)) × (index_after ≡ index_arena m a next key page)
  index_left_lem = index_fits m a next key page index_passed.0 index_passed.1.0 index_room'

  index_stands : next ≡ x.0
  index_stands =
      let q = index_left_lem.0 ∙ e in
      let y : addr next ≡ x = grind arith in
      ap (λ (b : Addr). b.0) y

  index_fit : IndexFit index_after m next key page
  index_fit =
      let r = next_true (length a) next index_passed.0 in
      record {
        carried = w;
        page-fits = wp;
        key-small = (lengths_true (length key) 0 index_passed.1.0).0;
        above = r.0;
        even = r.1;
        room = omega (arith, length-put a next (index_frame m key page), length_index_frame m key page, index_room');
      }

  written : Lies index_after next (index_frame m key page)
  written = put_lies a next (index_frame m key page) (omega (arith, length_index_frame m key page, index_room'))

  pub index_call-key : ReadsIndexKey (index_arena m a next key page) x.0 key
  index_call-key =
      subst (λ (s : List ℕ). ReadsIndexKey s x.0 key) index_left_lem.1
      (subst (λ (k : ℕ). ReadsIndexKey index_after k key) index_stands (index_reads_key index_after m next key page index_fit written))

  pub index_call-page : child_at (index_arena m a next key page) (addr x.0) ≡ Ok page
  index_call-page =
      subst (λ (s : List ℕ). child_at s (addr x.0) ≡ Ok page) index_left_lem.1
      (subst (λ (k : ℕ). child_at index_after (addr k) ≡ Ok page) index_stands (index_reads_page index_after m next key page index_fit written))
