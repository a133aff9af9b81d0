-- Values and records read back: what was written at a place of a page is what its reader finds there.
-- Assumes nothing.
use Prim.Native.Nat.{ℕ, ◌+◌, ◌*◌, ◌-◌, ◌^◌, ◌≤◌, ◌<◌}
use mathlib.Core.Path.{◌≡◌, refl, ap, ap₂, ◌∙◌}
use mathlib.Core.Bool.{Bool, true, false, cond}
use mathlib.Core.List.{List}
use native.Mathlib.Omega.{arith}
use borrow.Author.Tests.{le-leb, lt-ltb, ltb-false, ne_eqb}
use lib.ListN.{length, take}
use lib.Seq.{take-take}
use lib.Dec.{ltb, eqb}
use Rattle.spans.specs.Span.{part, Lies}
use Rattle.spans.proofs.Lying.{lies_front, lies_back, lies_part, lies_kept}
use Rattle.numbers.specs.Number.{le, le_at}
use Rattle.numbers.proofs.Numbers.{length-le, lies_le}
use Rattle.order.specs.declared.Ver.{Ver}
use Rattle.order.specs.Version.{ver_of}
use Rattle.frames.specs.declared.Addr.{Addr}
use Rattle.frames.specs.declared.Body.{Body}
use Rattle.frames.specs.Layout.{addr, base_len}
use Rattle.frames.specs.Limits.{max_value}
use Rattle.values.specs.declared.HistRef.{HistRef}
use Rattle.values.specs.Keys.{ver_bytes, ver_in, key_parts}
use Rattle.values.specs.Vals.{front_size, inline_bytes, remote_bytes}
use Rattle.values.proofs.Laws.{length_inline, length-remote}
use Rattle.values.proofs.KeysBack.{SmallVer}
use Rattle.values.proofs.ValsBack.{SmallHist, canon, Allowed, inline_back, inline_bytes_lem, remote_back}
use Rattle.records.specs.declared.Rec.{Rec}
use Rattle.records.specs.Records.{slot_at, key_in, val_of, val_in, rec_of, rec_in, rec_at, val_parts}
use Rattle.build_sources.specs.Source.{Entry}
use Rattle.build_sources.specs.Marks.{Held}
use Rattle.build_image.specs.Image.{remote_addr, val_bytes}
use Rattle.std.proofs.Common.{Some}

-- what lies in the front of a list lies there by itself
pub lies_take : (s : List ℕ) (at n : ℕ) (x : List ℕ) → at + length x ≤ n → Lies s at x → Lies (take n s) at x
lies_take s at n x h l = lies_kept s (take n s) at n x h (take-take n n s (omega arith)) l

-- a value that is a remote: its frame holds the bytes
pub record Resolves (s : List ℕ) (limit frame_at : ℕ) (e : Entry) : Type 0 where
  pub word : remote_addr frame_at e.kept < 256 ^ 8
  pub held : limit ≤ length e.val → Held s (remote_addr frame_at e.kept) e.val

-- ---- a value

pub record ValBack (s : List ℕ) (b : Body) (at : ℕ) (h : HistRef) (e : Entry) (next : ℕ) : Type 0 where
  pub place : ℕ
  pub remote : Addr
  pub read : val_in s b at ≡ Some (val_parts (canon h) place (length e.val) remote next)
  pub bytes : part s place (length e.val) ≡ e.val

module _ (s : List ℕ) (b : Body) (at limit frame_at : ℕ) (h : HistRef) (e : Entry) (ok : Allowed h (eqb b.kind 0)) (w : SmallHist h) (small : length e.val ≤ max_value) (res : Resolves s limit frame_at e) where
  near : Lies s at (inline_bytes h e.val) → at + length (inline_bytes h e.val) ≤ b.end → ValBack s b at h e (at + length (inline_bytes h e.val))
  unfolding val_in
  near l r =
      let x = length_inline h e.val in
      record {
        place = at + front_size h.count;
        remote = addr 0;
        read =
            ap (val_of s) (inline_back (take b.end s) at h e.val (eqb b.kind 0) ok w small (lies_take s at b.end (inline_bytes h e.val) r l))
            ∙ ap (λ (k : ℕ). Some (val_parts (canon h) (at + front_size h.count) (length e.val) (addr 0) k)) (omega arith);
        bytes = lies_part s (at + front_size h.count) (length e.val) e.val refl (inline_bytes_lem s at h e.val (eqb b.kind 0) ok w small l);
      }

  abbrev a : ℕ
  a = remote_addr frame_at e.kept

  away : limit ≤ length e.val → Lies s at (remote_bytes h (length e.val) a) → at + length (remote_bytes h (length e.val) a) ≤ b.end → ValBack s b at h e (at + length (remote_bytes h (length e.val) a))
  unfolding val_in
  away q l r =
      let x = length-remote h (length e.val) a in
      let k = res.held q in
      record {
        place = k.place;
        remote = addr a;
        read =
            ap (val_of s) (remote_back (take b.end s) at h (length e.val) a (eqb b.kind 0) ok w small res.word (lies_take s at b.end (remote_bytes h (length e.val) a) r l))
            ∙ rw (k.read, x) refl;
        bytes = k.bytes;
      }

  pub val_back : Lies s at (val_bytes limit frame_at h e) → at + length (val_bytes limit frame_at h e) ≤ b.end → ValBack s b at h e (at + length (val_bytes limit frame_at h e))
  unfolding val_bytes
  val_back l r = go (ltb (length e.val) limit) refl l r
    where
      go : (t : Bool) → ltb (length e.val) limit ≡ t → Lies s at (cond t (inline_bytes h e.val) (remote_bytes h (length e.val) a))
          → at + length (cond t (inline_bytes h e.val) (remote_bytes h (length e.val) a)) ≤ b.end
          → ValBack s b at h e (at + length (cond t (inline_bytes h e.val) (remote_bytes h (length e.val) a)))
      go true q l' r' = near l' r'
      go false q l' r' = away (ltb-false (length e.val) limit q) l' r'

-- ---- a record of a leaf or history page, from its key and its value

pub record RecBack (s : List ℕ) (b : Body) (p v ra rn : ℕ) (h : HistRef) (e : Entry) (next : ℕ) : Type 0 where
  pub rec : Rec
  pub read : rec_in s b p ≡ Some rec
  pub from : rec.from ≡ p
  pub behind : rec.next ≡ next
  pub ver-at : rec.ver_at ≡ v
  pub rest_at : rec.rest_at ≡ ra
  pub rest_len : rec.rest_len ≡ rn
  pub hist : rec.hist ≡ canon h
  pub val : part s rec.val_at rec.val_len ≡ e.val

pub rec_back : (s : List ℕ) (b : Body) (p v ra rn : ℕ) (h : HistRef) (e : Entry) (next : ℕ) → (b.kind ≡ 1 → ⊥) → key_in s b p ≡ Some (key_parts v ra rn) → ValBack s b (ra + rn) h e next → RecBack s b p v ra rn h e next
unfolding rec_in
rec_back s b p v ra rn h e next k q x =
    record {
      rec = rec_of p v ra rn (canon h) x.place (length e.val) x.remote next;
      read = rw (q, ne_eqb b.kind 1 k, x.read) refl;
      from = refl;
      behind = refl;
      ver-at = refl;
      rest_at = refl;
      rest_len = refl;
      hist = refl;
      val = x.bytes;
    }

-- ---- a slot

-- the record of slot i stands where the slot says
module _ (s : List ℕ) (b : Body) (i off : ℕ) (in_page : i < b.elems) (low : b.first ≤ b.at + off) (high : b.at + off < b.end) (word : off < 256 ^ 4) (lies : Lies s (b.at + base_len + 4 * i) (le 4 off)) where
  pub slot_back : slot_at s b i ≡ Some (b.at + off)
  unfolding slot_at
  slot_back =
      let e : le_at 4 s (b.at + base_len + 4 * i) ≡ off = lies_le s (b.at + base_len + 4 * i) 4 off word lies in
      rw (lt-ltb i b.elems in_page, e, le-leb b.first (b.at + off) low, lt-ltb (b.at + off) b.end high) refl

  pub rec-at : rec_at s b i ≡ rec_in s b (b.at + off)
  unfolding rec_at
  rec-at = rw slot_back refl
