-- Runs of stores: a remote frame where there is one, and a delta's frame for any key and value. One module a store.
-- Assumes nothing.
use mathlib.Core.Path.{◌≡◌, refl, sym, ap, ◌∙◌}
use mathlib.Core.List.{List, [], ◌++◌, append-nil}
use Prim.Native.Nat.{ℕ, ◌+◌, ◌-◌, ◌≤◌}
use native.Mathlib.Omega.{arith}
use lib.ListN.{length, replicate, length-replicate}
use borrow.Author.Tests.{le-ltb}
use Rattle.spans.specs.Span.{part, put}
use Rattle.spans.proofs.Part.{part-all}
use Rattle.spans.proofs.Put.{put_chain}
use Rattle.spans.proofs.Writing.{Writing, begin, wrote, finished, front}
use Rattle.numbers.specs.Number.{le}
use Rattle.numbers.proofs.Numbers.{length-le}
use Rattle.frames.specs.Layout.{box_len, frame_len, delta_key_at, box_delta}
use Rattle.frames.specs.Stored.{box_bytes}
use Rattle.frames.proofs.Stores.{length_box}
use Rattle.build_image.specs.declared.Call.{Call}
use Rattle.build_image.specs.Sizes.{pad}
use Rattle.build_image.specs.Image.{box_of, remote_frame}
use Rattle.delta.specs.Deltas.{remote_of, delta_head, delta_frame}
use Rattle.delta.proofs.Lengths.{length_head}

-- a piece of known length (it belongs in `spans`, beside `wrote`)
module _ (a₀ : List ℕ) (footing : ℕ) (whole a : List ℕ) (to : ℕ) (z x y : List ℕ) (h : Writing a₀ footing whole a to z) (e : z ≡ x ++ y) (n : ℕ) (l : length x ≡ n) where
  pub wrote_n : (a' : List ℕ) → a' ≡ put a to x → Writing a₀ footing whole a' (to + n) y
  wrote_n a' p = wrote a₀ footing whole a to z x y a' (to + n) h e p (ap (λ (k : ℕ). to + k) (sym l))

  pub room-n : to + n ≤ length a
  room-n = rw l at (front a₀ footing whole a to z x y h e)

-- ---- a remote frame: its writer takes the value as a part of a slice

module _ (a : List ℕ) (at : ℕ) (m : Call) (v : List ℕ) (h : m.limit ≤ length v) where
  remote-is : remote_of m v ≡ remote_frame m (part v 0 (length v))
  unfolding remote_of
  remote-is = rw (le-ltb (length v) m.limit h, part-all v) refl

  pub remote-room : at + length (remote_of m v) ≤ length a → at + length (remote_frame m (part v 0 (length v))) ≤ length a
  remote-room r = rw remote-is at r

  pub remote-stored : (a' : List ℕ) → a' ≡ put a at (remote_frame m (part v 0 (length v))) → a' ≡ put a at (remote_of m v)
  remote-stored a' q = q ∙ ap (put a at) (sym remote-is)

-- ---- a delta's box header and lengths

pub head_end : (a : List ℕ) (at : ℕ) (m : Call) (node k v : ℕ) (a₁ a₂ a₃ : List ℕ) → a₁ ≡ put a at (box_bytes (box_of m (8 + k + v) box_delta node 0 0 m.txid))
    → a₂ ≡ put a₁ (at + box_len) (le 4 k) → a₃ ≡ put a₂ (at + box_len + 4) (le 4 v) → a₃ ≡ put a at (delta_head m node k v)
unfolding delta_head
head_end a at m node k v a₁ a₂ a₃ e₁ e₂ e₃ =
    let b = box_bytes (box_of m (8 + k + v) box_delta node 0 0 m.txid) in
    put_chain a at b (le 4 k ++ le 4 v) e₁ (put_chain a₁ (at + box_len) (le 4 k) (le 4 v) e₂ e₃ (ap (λ (j : ℕ). at + box_len + j) (sym (length-le 4 k))))
    (ap (λ (j : ℕ). at + j) (sym (length_box (box_of m (8 + k + v) box_delta node 0 0 m.txid))))

-- ---- a delta's frame: k and n are the encoded sizes of its key and value, z the zeros that round it up

module _ (a : List ℕ) (at : ℕ) (m : Call) (node : ℕ) (key val : List ℕ) (k n : ℕ) (ek : length key ≡ k) (en : length val ≡ n)
    (room : at + length (delta_frame m node key val) ≤ length a) (r : ℕ) (e : r ≡ frame_len (8 + k + n)) where
  abbrev whole : List ℕ
  whole = put a at (delta_frame m node key val)

  abbrev zeros : List ℕ
  zeros = replicate (r - (box_len + (8 + k + n))) 0

  frame-bytes : delta_frame m node key val ≡ delta_head m node k n ++ (key ++ (val ++ (zeros ++ [])))
  unfolding delta_frame pad
  frame-bytes = rw (ek, en, e, append-nil {A = ℕ} (replicate (frame_len (8 + k + n) - (box_len + (8 + k + n))) 0)) refl

  d0 : Writing a 0 whole a at (delta_frame m node key val)
  d0 = begin a 0 at _ (omega arith) room

  pub frame_head_room : at + delta_key_at ≤ length a
  frame_head_room = room-n a 0 whole a at _ (delta_head m node k n) _ d0 frame-bytes delta_key_at (length_head m node k n)

  module _ (a₁ : List ℕ) (e₁ : a₁ ≡ put a at (delta_head m node k n)) where
    d1 : Writing a 0 whole a₁ (at + delta_key_at) (key ++ (val ++ (zeros ++ [])))
    d1 = wrote_n a 0 whole a at _ (delta_head m node k n) _ d0 frame-bytes delta_key_at (length_head m node k n) a₁ e₁

    pub frame-key-room : at + delta_key_at + length key ≤ length a₁
    frame-key-room = room-n a 0 whole a₁ (at + delta_key_at) _ key _ d1 refl (length key) refl

    module _ (a₂ : List ℕ) (e₂ : a₂ ≡ put a₁ (at + delta_key_at) key) where
      d2 : Writing a 0 whole a₂ (at + delta_key_at + k) (val ++ (zeros ++ []))
      d2 = wrote_n a 0 whole a₁ (at + delta_key_at) _ key _ d1 refl k ek a₂ e₂

      pub frame-val-room : at + delta_key_at + k + length val ≤ length a₂
      frame-val-room = room-n a 0 whole a₂ (at + delta_key_at + k) _ val _ d2 refl (length val) refl

      pub frame-fits : at + delta_key_at + k + n ≤ length a
      frame-fits = omega (arith, frame-val-room, en, d2.long)

      module _ (a₃ : List ℕ) (e₃ : a₃ ≡ put a₂ (at + delta_key_at + k) val) where
        d3 : Writing a 0 whole a₃ (at + delta_key_at + k + n) (zeros ++ [])
        d3 = wrote_n a 0 whole a₂ (at + delta_key_at + k) _ val _ d2 refl n en a₃ e₃

        pub frame-zeros-room : at + delta_key_at + k + n + (r - (box_len + (8 + k + n))) ≤ length a₃
        frame-zeros-room = room-n a 0 whole a₃ (at + delta_key_at + k + n) _ zeros [] d3 refl (r - (box_len + (8 + k + n))) (length-replicate {A = ℕ} (r - (box_len + (8 + k + n))) 0)

        pub frame-end : (a₄ : List ℕ) → a₄ ≡ put a₃ (at + delta_key_at + k + n) zeros → a₄ ≡ whole
        frame-end a₄ q = finished a 0 whole a₄ (at + delta_key_at + k + n + (r - (box_len + (8 + k + n)))) [] (wrote_n a 0 whole a₃ (at + delta_key_at + k + n) _ zeros [] d3 refl (r - (box_len + (8 + k + n))) (length-replicate {A = ℕ} (r - (box_len + (8 + k + n))) 0) a₄ q) refl
