-- Frames read back: a page whose two headers lie there opens, a remote frame that lies there resolves.
-- Assumes nothing.
use Prim.Native.Nat.{ℕ, ◌+◌, ◌%◌, ◌^◌, ◌≤◌, ◌<◌}
use mathlib.Core.Path.{◌≡◌, refl}
use mathlib.Core.Bool.{true}
use mathlib.Core.List.{List, ◌++◌}
use native.Mathlib.Omega.{arith}
use borrow.Author.Tests.{le-leb, eq-eqb}
use lib.ListN.{length}
use Rattle.spans.specs.Span.{part, Lies}
use Rattle.spans.proofs.Lying.{lies_front, lies_back, lies_part}
use Rattle.numbers.specs.Number.{le, le_at}
use Rattle.numbers.proofs.Numbers.{length-le, lies_le}
use Rattle.frames.specs.declared.BoxHeader.{BoxHeader}
use Rattle.frames.specs.declared.BaseHeader.{BaseHeader}
use Rattle.frames.specs.Layout.{box_len, base_len, box_base, box_remote, node_leaf, addr, frame_len, box_fields, box_ok, box_at, base_fields, base_ok, page_at, body_of, open_at, remote_at}
use Rattle.frames.specs.Stored.{box_bytes, base_bytes}
use Rattle.frames.specs.Limits.{max_value}
use Rattle.frames.proofs.Stores.{BoxFits, BaseFits, length_box, box_reads, base_reads}
use Rattle.build_image.specs.declared.Call.{Call}
use Rattle.build_image.specs.Sizes.{pad}
use Rattle.build_image.specs.Image.{box_of, remote_frame}
use Rattle.law_history.specs.Fit.{Numbers}
use Rattle.std.proofs.Common.{Some}

-- ---- any frame, any page

module _ (s : List ℕ) (a : ℕ) (x : BoxHeader) (f : BoxFits x) (lies : Lies s a (box_bytes x)) (room : a + box_len ≤ length s) (ok : box_ok x a (length s) ≡ true) where
  pub box_back : box_at s (addr a) ≡ Some x
  unfolding box_at
  box_back = let e : box_fields s a ≡ x = box_reads s a x f lies in rw (le-leb (a + box_len) (length s) room, e, ok) refl

  module _ (h : BaseHeader) (g : BaseFits h) (back : Lies s (a + box_len) (base_bytes h)) (kind : x.box_kind ≡ box_base) (holds : base_len ≤ x.payload_size) (ok' : base_ok x h ≡ true) where
    pub page_back : page_at s (addr a) ≡ Some (x, h)
    unfolding page_at
    page_back =
        let e : base_fields s (a + box_len) ≡ h = base_reads s (a + box_len) h g back in
        rw (box_back, eq-eqb x.box_kind box_base kind, le-leb base_len x.payload_size holds, e, ok') refl

    pub open_back : open_at s (addr a) ≡ Some (body_of (addr a) x h)
    unfolding open_at
    open_back = rw page_back refl

-- ---- an address of a frame

-- "An address is .. a multiple of 8, at least 8", and its whole frame lies in the arena, whose length is a u64
pub record Framing (s : List ℕ) (a n : ℕ) : Type 0 where
  pub above : 8 ≤ a
  pub even : a % 8 ≡ 0
  pub room : a + frame_len n ≤ length s
  pub word : length s < 256 ^ 8

-- the call's own numbers fit their fields
pub box_fits : (m : Call) (n kind node flag link txid : ℕ) → Numbers m → n < 256 ^ 4 → kind < 256 → node < 256 → flag < 256 → link < 256 ^ 8 → txid < 256 ^ 8 → BoxFits (box_of m n kind node flag link txid)
box_fits m n kind node flag link txid w p k d f l t =
    record { payload = p; kind = k; node = d; flag = f; group = w.group; link = l; txid = t; lsn = w.lsn }

-- a remote frame resolves, and its bytes are the value's
module _ (s : List ℕ) (m : Call) (a : ℕ) (v : List ℕ) (w : Numbers m) (fr : Framing s a (8 + length v)) (small : length v ≤ max_value) (lies : Lies s a (remote_frame m v)) where
  abbrev box : BoxHeader
  box = box_of m (8 + length v) box_remote node_leaf 0 0 0

  front : Lies s a (box_bytes box)
  unfolding remote_frame
  front = lies_front s a (box_bytes box) (le 8 (length v) ++ (v ++ pad (8 + length v))) lies

  rest : Lies s (a + box_len) (le 8 (length v) ++ (v ++ pad (8 + length v)))
  unfolding remote_frame
  rest = rw (length_box box) at (lies_back s a (box_bytes box) (le 8 (length v) ++ (v ++ pad (8 + length v))) lies)

  is_ok : box_ok box a (length s) ≡ true
  unfolding box_ok
  is_ok = rw (le-leb 8 a fr.above, eq-eqb (a % 8) 0 fr.even, le-leb (a + frame_len (8 + length v)) (length s) fr.room) refl

  pub remote_back : remote_at s (addr a) (length v) ≡ Some (a + box_len + 8)
  unfolding remote_at
  remote_back =
      let e : le_at 8 s (a + box_len) ≡ length v = lies_le s (a + box_len) 8 (length v) (omega arith) (lies_front s (a + box_len) (le 8 (length v)) (v ++ pad (8 + length v)) rest) in
      rw (box_back s a box (box_fits m (8 + length v) box_remote node_leaf 0 0 0 w (omega arith) (omega arith) (omega arith) (omega arith) (omega arith) (omega arith)) front (omega (arith, fr.room)) is_ok, eq-eqb (8 + length v) (8 + length v) refl, e, eq-eqb (length v) (length v) refl) refl

  pub remote-bytes : part s (a + box_len + 8) (length v) ≡ v
  remote-bytes =
      let k : Lies s (a + box_len + 8) (v ++ pad (8 + length v)) = rw (length-le 8 (length v)) at (lies_back s (a + box_len) (le 8 (length v)) (v ++ pad (8 + length v)) rest) in
      lies_part s (a + box_len + 8) (length v) v refl (lies_front s (a + box_len + 8) v (pad (8 + length v)) k)
