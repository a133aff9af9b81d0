-- Runs of stores: a value, an old version's record, a remote frame, a history page's headers. One module a store.
-- Assumes nothing.
use mathlib.Core.Path.{◌≡◌, refl, sym, ap, ◌∙◌}
use mathlib.Core.List.{List, [], ◌∷◌, ◌++◌, append-nil}
use mathlib.Core.Bool.{Bool, true, false, cond}
use Prim.Native.Nat.{ℕ, zero, suc, ◌+◌, ◌-◌, ◌*◌, ◌≤◌, ◌<◌}
use native.Mathlib.Omega.{arith}
use borrow.Author.Tests.{lt-ltb, le-ltb, le-leb}
use lib.Dec.{ltb, leb}
use lib.ListN.{length, take, length-append, replicate, length-replicate}
use Rattle.spans.specs.Span.{part, put, Stored}
use Rattle.spans.proofs.Part.{length_part}
use Rattle.spans.proofs.Put.{stored-count, stored_bytes}
use Rattle.spans.proofs.Writing.{Writing, begin, wrote, finished, front}
use Rattle.numbers.specs.Number.{le}
use Rattle.frames.specs.declared.BaseHeader.{BaseHeader}
use Rattle.frames.specs.Layout.{box_len, box_remote, node_leaf, flag_sibling, frame_len}
use Rattle.frames.specs.Stored.{box_bytes, page_bytes, base_of}
use Rattle.frames.specs.Limits.{max_value}
use Rattle.frames.proofs.Stores.{length_box}
use Rattle.values.specs.declared.HistRef.{HistRef}
use Rattle.values.specs.Keys.{ver_bytes}
use Rattle.values.specs.Vals.{no_hist, front_bytes, inline_bytes, remote_bytes}
use Rattle.build_sources.specs.declared.EntryAt.{EntryAt}
use Rattle.build_sources.specs.Keys.{src_of}
use Rattle.build_sources.specs.Source.{Entry, Placed, entry_of}
use Rattle.build_image.specs.declared.Call.{Call}
use Rattle.build_image.specs.Sizes.{pad}
use Rattle.build_image.specs.Image.{box_of, page_box, remote_addr, val_bytes, remote_frame, old_rec, hist_head}
use Rattle.build_history.proofs.Writes.{wrote_n, room-n, wrote_le, room-le, wrote_part, part_asks}

abbrev pub value_of : List ℕ → List ℕ → ℕ → EntryAt → List ℕ
value_of l a footing i = part (src_of l (take footing a) i.footing) i.vat i.vlen

-- ---- a value

module _ (l a : List ℕ) (footing at : ℕ) (i : EntryAt) (h : HistRef) (limit remote : ℕ) (over : footing ≤ at) (p : Placed l (take footing a) i)
    (room : at + length (val_bytes limit remote h (entry_of l (take footing a) i)) ≤ length a) where
  abbrev val-whole : List ℕ
  val-whole = put a at (val_bytes limit remote h (entry_of l (take footing a) i))

  v0 : Writing a footing val-whole a at (val_bytes limit remote h (entry_of l (take footing a) i))
  v0 = begin a footing at _ over room

  ok : leb i.vlen max_value ≡ true
  ok = le-leb i.vlen max_value p.vsmall

  near : i.vlen < limit → val_bytes limit remote h (entry_of l (take footing a) i) ≡ front_bytes h false i.vlen ++ (value_of l a footing i ++ [])
  unfolding val_bytes entry_of inline_bytes
  near q = rw (length_part (src_of l (take footing a) i.footing) i.vat i.vlen p.val, lt-ltb i.vlen limit q, append-nil (value_of l a footing i)) refl

  away : limit ≤ i.vlen → val_bytes limit remote h (entry_of l (take footing a) i) ≡ front_bytes h true i.vlen ++ (le 8 (remote_addr remote i.kept.0) ++ [])
  unfolding val_bytes entry_of remote_bytes
  away q = rw (length_part (src_of l (take footing a) i.footing) i.vat i.vlen p.val, le-ltb i.vlen limit q, append-nil (le 8 (remote_addr remote i.kept.0))) refl

  module _ (q : i.vlen < limit) (k : ℕ) (a₁ : List ℕ) (st : Stored (leb i.vlen max_value) a at (front_bytes h false i.vlen) k a₁) where
    near-room : at + length (front_bytes h false i.vlen) ≤ length a
    near-room = front a footing val-whole a at _ (front_bytes h false i.vlen) _ v0 (near q)

    n1 : Writing a footing val-whole a₁ (at + k) (value_of l a footing i ++ [])
    n1 =
        wrote a footing val-whole a at _ (front_bytes h false i.vlen) _ a₁ (at + k) v0 (near q)
        (stored_bytes _ a at (front_bytes h false i.vlen) k a₁ st ok near-room)
        (ap (λ (n : ℕ). at + n) (stored-count _ a at (front_bytes h false i.vlen) k a₁ st ok near-room))

    pub near_asks : (footing ≤ at + k) × ((at + k + i.vlen ≤ length a₁) × (i.vat + i.vlen ≤ length (src_of l (take footing a₁) i.footing)))
    near_asks = part_asks a footing val-whole a₁ (at + k) _ [] l i.footing i.vat i.vlen n1 refl p.val

    pub near_fits : at + k ≤ length a
    near_fits = omega (arith, n1.room, n1.long)

    pub near-end : (a₂ : List ℕ) → a₂ ≡ put a₁ (at + k) (part (src_of l (take footing a₁) i.footing) i.vat i.vlen) → a₂ ≡ val-whole
    near-end a₂ e = finished a footing val-whole a₂ (at + k + i.vlen) [] (wrote_part a footing val-whole a₁ (at + k) _ [] l i.footing i.vat i.vlen n1 refl p.val a₂ _ e refl) refl

  module _ (q : limit ≤ i.vlen) (k : ℕ) (a₁ : List ℕ) (st : Stored (leb i.vlen max_value) a at (front_bytes h true i.vlen) k a₁) where
    away-front : at + length (front_bytes h true i.vlen) ≤ length a
    away-front = front a footing val-whole a at _ (front_bytes h true i.vlen) _ v0 (away q)

    w1 : Writing a footing val-whole a₁ (at + k) (le 8 (remote_addr remote i.kept.0) ++ [])
    w1 =
        wrote a footing val-whole a at _ (front_bytes h true i.vlen) _ a₁ (at + k) v0 (away q)
        (stored_bytes _ a at (front_bytes h true i.vlen) k a₁ st ok away-front)
        (ap (λ (n : ℕ). at + n) (stored-count _ a at (front_bytes h true i.vlen) k a₁ st ok away-front))

    pub away-room : at + k + 8 ≤ length a₁
    away-room = room-le a footing val-whole a₁ (at + k) _ 8 (remote_addr remote i.kept.0) [] w1 refl

    pub away-fits : at + k ≤ length a
    away-fits = omega (arith, w1.room, w1.long)

    pub away-end : (v : ℕ) → v ≡ remote_addr remote i.kept.0 → (a₂ : List ℕ) → a₂ ≡ put a₁ (at + k) (le 8 v) → a₂ ≡ val-whole
    away-end v ev a₂ e =
        finished a footing val-whole a₂ (at + k + 8) []
        (wrote_le a footing val-whole a₁ (at + k) _ 8 (remote_addr remote i.kept.0) [] w1 refl a₂ _ (e ∙ ap (λ (x : ℕ). put a₁ (at + k) (le 8 x)) ev) refl) refl

-- ---- an old version's record

module _ (l a : List ℕ) (footing at : ℕ) (i : EntryAt) (limit remote : ℕ) (over : footing ≤ at) (p : Placed l (take footing a) i)
    (room : at + length (old_rec limit remote (entry_of l (take footing a) i)) ≤ length a) where
  abbrev rec-whole : List ℕ
  rec-whole = put a at (old_rec limit remote (entry_of l (take footing a) i))

  rec-bytes : old_rec limit remote (entry_of l (take footing a) i) ≡ ver_bytes i.ver ++ val_bytes limit remote no_hist (entry_of l (take footing a) i)
  unfolding old_rec entry_of
  rec-bytes = refl

  o0 : Writing a footing rec-whole a at (old_rec limit remote (entry_of l (take footing a) i))
  o0 = begin a footing at _ over room

  ver-room : at + length (ver_bytes i.ver) ≤ length a
  ver-room = front a footing rec-whole a at _ (ver_bytes i.ver) _ o0 rec-bytes

  module _ (k : ℕ) (a₁ : List ℕ) (st : Stored true a at (ver_bytes i.ver) k a₁) where
    o1 : Writing a footing rec-whole a₁ (at + k) (val_bytes limit remote no_hist (entry_of l (take footing a) i))
    o1 =
        wrote a footing rec-whole a at _ (ver_bytes i.ver) _ a₁ (at + k) o0 rec-bytes
        (stored_bytes true a at (ver_bytes i.ver) k a₁ st refl ver-room) (ap (λ (n : ℕ). at + n) (stored-count true a at (ver_bytes i.ver) k a₁ st refl ver-room))

    pub rec-fits : at + k ≤ length a
    rec-fits = omega (arith, o1.room, o1.long)

    pub rec_asks : (footing ≤ at + k) × (Placed l (take footing a₁) i × (at + k + length (val_bytes limit remote no_hist (entry_of l (take footing a₁) i)) ≤ length a₁))
    rec_asks = rw o1.same (o1.over, (p, o1.room))

    pub rec-end : (a₂ : List ℕ) → a₂ ≡ put a₁ (at + k) (val_bytes limit remote no_hist (entry_of l (take footing a₁) i)) → a₂ ≡ rec-whole
    rec-end a₂ q = (rw o1.same at q) ∙ o1.goes

-- ---- a remote frame

module _ (l a : List ℕ) (footing at : ℕ) (inside : Bool) (from n : ℕ) (m : Call) (over : footing ≤ at) (p : from + n ≤ length (src_of l (take footing a) inside))
    (room : at + length (remote_frame m (part (src_of l (take footing a) inside) from n)) ≤ length a) where
  abbrev value : List ℕ
  value = part (src_of l (take footing a) inside) from n

  abbrev box : List ℕ
  box = box_bytes (box_of m (8 + n) box_remote node_leaf 0 0 0)

  abbrev remote-whole : List ℕ
  remote-whole = put a at (remote_frame m value)

  remote-bytes : remote_frame m value ≡ box ++ (le 8 n ++ (value ++ pad (8 + n)))
  unfolding remote_frame
  remote-bytes = rw (length_part (src_of l (take footing a) inside) from n p) refl

  f0 : Writing a footing remote-whole a at (remote_frame m value)
  f0 = begin a footing at _ over room

  pub remote-room : at + box_len ≤ length a
  remote-room = room-n a footing remote-whole a at _ box _ f0 remote-bytes box_len (length_box (box_of m (8 + n) box_remote node_leaf 0 0 0))

  module _ (a₁ : List ℕ) (e₁ : a₁ ≡ put a at box) where
    f1 : Writing a footing remote-whole a₁ (at + box_len) (le 8 n ++ (value ++ pad (8 + n)))
    f1 = wrote_n a footing remote-whole a at _ box _ f0 remote-bytes box_len a₁ (at + box_len) (length_box (box_of m (8 + n) box_remote node_leaf 0 0 0)) e₁ refl

    pub remote_room1 : at + box_len + 8 ≤ length a₁
    remote_room1 = room-le a footing remote-whole a₁ (at + box_len) _ 8 n _ f1 refl

    module _ (a₂ : List ℕ) (e₂ : a₂ ≡ put a₁ (at + box_len) (le 8 n)) where
      f2 : Writing a footing remote-whole a₂ (at + box_len + 8) (value ++ pad (8 + n))
      f2 = wrote_le a footing remote-whole a₁ (at + box_len) _ 8 n _ f1 refl a₂ (at + box_len + 8) e₂ refl

      pub remote_asks : (footing ≤ at + box_len + 8) × ((at + box_len + 8 + n ≤ length a₂) × (from + n ≤ length (src_of l (take footing a₂) inside)))
      remote_asks = part_asks a footing remote-whole a₂ (at + box_len + 8) _ _ l inside from n f2 refl p

      pub remote-fits : at + box_len + 8 + n ≤ length a
      remote-fits = omega (arith, remote_asks.1.0, f2.long)

      module _ (a₃ : List ℕ) (e₃ : a₃ ≡ put a₂ (at + box_len + 8) (part (src_of l (take footing a₂) inside) from n)) where
        f3 : Writing a footing remote-whole a₃ (at + box_len + 8 + n) (pad (8 + n))
        f3 = wrote_part a footing remote-whole a₂ (at + box_len + 8) _ _ l inside from n f2 refl p a₃ (at + box_len + 8 + n) e₃ refl

        zeros_are : (r : ℕ) → r ≡ frame_len (8 + n) → pad (8 + n) ≡ replicate (r - (box_len + (8 + n))) 0 ++ []
        unfolding pad
        zeros_are r e = rw e (sym (append-nil (replicate (frame_len (8 + n) - (box_len + (8 + n))) 0)))

        pub remote-zeros : (r : ℕ) → r ≡ frame_len (8 + n) → at + box_len + 8 + n + (r - (box_len + (8 + n))) ≤ length a₃
        remote-zeros r e = room-n a footing remote-whole a₃ (at + box_len + 8 + n) _ (replicate (r - (box_len + (8 + n))) 0) [] f3 (zeros_are r e) _ (length-replicate _ 0)

        pub remote-end : (r : ℕ) → r ≡ frame_len (8 + n) → (a₄ : List ℕ) → a₄ ≡ put a₃ (at + box_len + 8 + n) (replicate (r - (box_len + (8 + n))) 0) → a₄ ≡ remote-whole
        remote-end r e a₄ q =
            finished a footing remote-whole a₄ (at + box_len + 8 + n + (r - (box_len + (8 + n)))) []
            (wrote_n a footing remote-whole a₃ (at + box_len + 8 + n) _ (replicate (r - (box_len + (8 + n))) 0) [] f3 (zeros_are r e) _ a₄ _ (length-replicate _ 0) q refl) refl

-- ---- a history page's headers

pub heads-end : (a : List ℕ) (at : ℕ) (m : Call) (link n size : ℕ) (b : BaseHeader) (a₁ : List ℕ) → b ≡ base_of size n 0 0 0 0 0 0 → a₁ ≡ put a at (page_bytes (page_box m size node_leaf flag_sibling link) b) → a₁ ≡ put a at (hist_head m link n size)
unfolding hist_head
heads-end a at m link n size b a₁ e₁ e₂ = e₂ ∙ ap (λ (h : BaseHeader). put a at (page_bytes (page_box m size node_leaf flag_sibling link) h)) e₁
