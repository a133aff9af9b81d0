-- The headers' round trips: what lies as a header's bytes reads back as its fields, and the fields that were read are those bytes.
-- Assumes nothing.
use mathlib.Core.Path.{◌≡◌, refl, sym, ap, ap₂, ◌∙◌}
use mathlib.Core.List.{List, [], ◌∷◌, ◌++◌}
use Prim.Native.Nat.{ℕ, ◌+◌, ◌%◌, ◌^◌, ◌≤◌, ◌<◌}
use native.Mathlib.Nat.{mod-eq_of_lt, add-zero}
use native.Mathlib.Omega.{arith}
use lib.ListN.{length, get_or, length-append}
use Rattle.spans.specs.Span.{part, put, Lies}
use Rattle.spans.proofs.Put.{put_next, put_chain}
use Rattle.spans.proofs.Part.{part-part, part_add, part-one, get_d_part, length_part}
use Rattle.spans.proofs.Lying.{lies_front, lies_back}
use Rattle.numbers.specs.Number.{le, of_le, le_at, Bytes}
use Rattle.numbers.proofs.Numbers.{length-le, of_le-le-small, le-of_le, bytes-part}
use Rattle.frames.specs.declared.BoxHeader.{BoxHeader}
use Rattle.frames.specs.declared.BaseHeader.{BaseHeader}
use Rattle.frames.specs.Layout.{box_len, base_len, slots_at, box_fields, base_fields}
use Rattle.frames.specs.Stored.{box_bytes, base_front, base_back, base_bytes, page_bytes, base_of}

-- ---- laws of numbers in a slice (they belong to `numbers`)

-- a number of k bytes, i bytes into what lies at an index
pub lies_number : (s : List ℕ) (at : ℕ) (x : List ℕ) (i k n : ℕ) → Lies s at x → i + k ≤ length x → part x i k ≡ le k n → n < 256 ^ k → le_at k s (at + i) ≡ n
unfolding Lies le_at
lies_number s at x i k n l h e b =
    ap of_le (sym (part-part s at (length x) i k h) ∙ ap (λ (y : List ℕ). part y i k) l ∙ e) ∙ of_le-le-small k n b

-- a byte, likewise
pub lies_byte : (s : List ℕ) (at : ℕ) (x : List ℕ) (i n : ℕ) → Lies s at x → i < length x → get_or x i 0 ≡ n % 256 → n < 256 → get_or s (at + i) 0 ≡ n
unfolding Lies
lies_byte s at x i n l h e b =
    sym (get_d_part s at (length x) i 0 h) ∙ ap (λ (y : List ℕ). get_or y i 0) l ∙ e ∙ mod-eq_of_lt b

-- the number that was read is the bytes that it was read from
pub le-le_at : (s : List ℕ) (i k : ℕ) → Bytes s → i + k ≤ length s → le k (le_at k s i) ≡ part s i k
unfolding le_at
le-le_at s i k b h =
    ap (λ (m : ℕ). le m (of_le (part s i k))) (sym (length_part s i k h)) ∙ le-of_le (part s i k) (bytes-part s i k b)

pub le_byte : (s : List ℕ) (i : ℕ) → Bytes s → i + 1 ≤ length s → le 1 (get_or s i 0) ≡ part s i 1
unfolding le
le_byte s i b h = ap (λ (v : ℕ). v ∷ []) (mod-eq_of_lt (b i)) ∙ sym (part-one s i (omega arith))

-- a number, or a byte, of a part that is the same in both
pub same_number : (s t : List ℕ) (at n i k : ℕ) → part s at n ≡ part t at n → i + k ≤ n → le_at k s (at + i) ≡ le_at k t (at + i)
unfolding le_at
same_number s t at n i k e h = ap of_le (sym (part-part s at n i k h) ∙ ap (λ (y : List ℕ). part y i k) e ∙ part-part t at n i k h)

pub same_byte : (s t : List ℕ) (at n i : ℕ) → part s at n ≡ part t at n → i < n → get_or s (at + i) 0 ≡ get_or t (at + i) 0
same_byte s t at n i e h = sym (get_d_part s at n i 0 h) ∙ ap (λ (y : List ℕ). get_or y i 0) e ∙ get_d_part t at n i 0 h

-- one field more
pub part-next : (s : List ℕ) (at i k j : ℕ) (x y : List ℕ) → x ≡ part s at i → y ≡ part s j k → j ≡ at + i → x ++ y ≡ part s at (i + k)
part-next s at i k j x y p q e =
    ap₂ (λ (u v : List ℕ). u ++ v) p (q ∙ ap (λ (m : ℕ). part s m k) e) ∙ sym (part_add s at i k)

-- ---- a run of stores, one behind the other (it belongs to `spans`)

-- b is a with the n bytes x stored from at on
pub record Wrote (a : List ℕ) (at : ℕ) (b x : List ℕ) (n : ℕ) : Type 0 where
  pub is : b ≡ put a at x
  pub long : length x ≡ n

pub wrote_first : {a : List ℕ} {at : ℕ} {b : List ℕ} (x : List ℕ) (n : ℕ) → b ≡ put a at x → length x ≡ n → Wrote a at b x n
wrote_first x n e l = record { is = e; long = l }

pub wrote_then : {a : List ℕ} {at : ℕ} {b x : List ℕ} {n : ℕ} {c : List ℕ} (y : List ℕ) (k : ℕ) → Wrote a at b x n → c ≡ put b (at + n) y → length y ≡ k → Wrote a at c (x ++ y) (n + k)
wrote_then {a} {at} {b} {x} {n} {c} y k w e l =
    record {
      is = e ∙ ap (λ (z : List ℕ). put z (at + n) y) w.is ∙ put_next a at x y (at + n) (ap (λ (m : ℕ). at + m) (sym w.long));
      long = length-append x y ∙ ap₂ (λ (i j : ℕ). i + j) w.long l;
    }

-- ---- box header

pub record BoxFits (h : BoxHeader) : Type 0 where
  pub payload : h.payload_size < 256 ^ 4
  pub kind : h.box_kind < 256
  pub node : h.node_type < 256
  pub flag : h.flag < 256
  pub group : h.group < 256
  pub link : h.link.0 < 256 ^ 8
  pub txid : h.txid < 256 ^ 8
  pub lsn : h.lsn < 256 ^ 8

pub length_box : (h : BoxHeader) → length (box_bytes h) ≡ box_len
unfolding box_bytes le
length_box h = refl

pub box_reads : (s : List ℕ) (at : ℕ) (h : BoxHeader) → BoxFits h → Lies s at (box_bytes h) → box_fields s at ≡ h
unfolding box_fields box_bytes le part
box_reads s at h f l =
    let x : List ℕ = box_bytes h in
    let z : le_at 4 s at ≡ h.payload_size = ap (λ (k : ℕ). le_at 4 s k) (sym (add-zero at)) ∙ lies_number s at x 0 4 h.payload_size l (omega arith) refl f.payload in
    λ i.
    record {
      payload_size = z i;
      box_kind = lies_byte s at x 4 h.box_kind l (omega arith) refl f.kind i;
      node_type = lies_byte s at x 5 h.node_type l (omega arith) refl f.node i;
      flag = lies_byte s at x 6 h.flag l (omega arith) refl f.flag i;
      group = lies_byte s at x 7 h.group l (omega arith) refl f.group i;
      link = record { 0 = lies_number s at x 8 8 h.link.0 l (omega arith) refl f.link i };
      txid = lies_number s at x 16 8 h.txid l (omega arith) refl f.txid i;
      lsn = lies_number s at x 24 8 h.lsn l (omega arith) refl f.lsn i;
    }

pub box_lies : (s : List ℕ) (at : ℕ) → Bytes s → at + box_len ≤ length s → Lies s at (box_bytes (box_fields s at))
unfolding Lies box_bytes box_fields
box_lies s at b h =
    let w0 = le-le_at s at 4 b (omega arith) in
    let w1 = part-next s at 4 1 (at + 4) _ _ w0 (le_byte s (at + 4) b (omega arith)) refl in
    let w2 = part-next s at 5 1 (at + 5) _ _ w1 (le_byte s (at + 5) b (omega arith)) refl in
    let w3 = part-next s at 6 1 (at + 6) _ _ w2 (le_byte s (at + 6) b (omega arith)) refl in
    let w4 = part-next s at 7 1 (at + 7) _ _ w3 (le_byte s (at + 7) b (omega arith)) refl in
    let w5 = part-next s at 8 8 (at + 8) _ _ w4 (le-le_at s (at + 8) 8 b (omega arith)) refl in
    let w6 = part-next s at 16 8 (at + 16) _ _ w5 (le-le_at s (at + 16) 8 b (omega arith)) refl in
    let w7 = part-next s at 24 8 (at + 24) _ _ w6 (le-le_at s (at + 24) 8 b (omega arith)) refl in
    ap (part s at) (length_box (box_fields s at)) ∙ sym w7

-- ---- base header

pub record BaseFits (h : BaseHeader) : Type 0 where
  pub size : h.size < 256 ^ 4
  pub elems : h.elems < 256 ^ 2
  pub split : h.split_elems < 256 ^ 2
  pub sibling : h.right_sibling.0 < 256 ^ 8
  pub child : h.merging_child.0 < 256 ^ 8
  pub lo : h.lo_len < 256 ^ 4
  pub hi : h.hi_len < 256 ^ 4
  pub prefix : h.prefix_len < 256 ^ 4
  pub merging : h.merging < 256
  pub index : h.is_index < 256
  pub many : h.has_multiple_versions < 256
  pub padding : h.padding < 256

-- what a build makes fits
pub base_of_fits : (size elems sibling lo hi prefix index many : ℕ) → size < 256 ^ 4 → elems < 256 ^ 2 → sibling < 256 ^ 8 → lo < 256 ^ 4 → hi < 256 ^ 4 → prefix < 256 ^ 4 → index < 256 → many < 256
    → BaseFits (base_of size elems sibling lo hi prefix index many)
base_of_fits size elems sibling lo hi prefix index many h₁ h₂ h₃ h₄ h₅ h₆ h₇ h₈ =
    record {
      size = h₁;
      elems = h₂;
      split = omega arith;
      sibling = h₃;
      child = omega arith;
      lo = h₄;
      hi = h₅;
      prefix = h₆;
      merging = omega arith;
      index = h₇;
      many = h₈;
      padding = omega arith;
    }

pub length_front : (h : BaseHeader) → length (base_front h) ≡ 24
unfolding base_front le
length_front h = refl

pub length_back : (h : BaseHeader) → length (base_back h) ≡ 16
unfolding base_back le
length_back h = refl

pub length_base : (h : BaseHeader) → length (base_bytes h) ≡ base_len
unfolding base_bytes base_front base_back le
length_base h = refl

pub base_reads : (s : List ℕ) (at : ℕ) (h : BaseHeader) → BaseFits h → Lies s at (base_bytes h) → base_fields s at ≡ h
unfolding base_fields base_bytes base_front base_back le part
base_reads s at h f l =
    let x : List ℕ = base_bytes h in
    let z : le_at 4 s at ≡ h.size = ap (λ (k : ℕ). le_at 4 s k) (sym (add-zero at)) ∙ lies_number s at x 0 4 h.size l (omega arith) refl f.size in
    λ i.
    record {
      size = z i;
      elems = lies_number s at x 4 2 h.elems l (omega arith) refl f.elems i;
      split_elems = lies_number s at x 6 2 h.split_elems l (omega arith) refl f.split i;
      right_sibling = record { 0 = lies_number s at x 8 8 h.right_sibling.0 l (omega arith) refl f.sibling i };
      merging_child = record { 0 = lies_number s at x 16 8 h.merging_child.0 l (omega arith) refl f.child i };
      lo_len = lies_number s at x 24 4 h.lo_len l (omega arith) refl f.lo i;
      hi_len = lies_number s at x 28 4 h.hi_len l (omega arith) refl f.hi i;
      prefix_len = lies_number s at x 32 4 h.prefix_len l (omega arith) refl f.prefix i;
      merging = lies_byte s at x 36 h.merging l (omega arith) refl f.merging i;
      is_index = lies_byte s at x 37 h.is_index l (omega arith) refl f.index i;
      has_multiple_versions = lies_byte s at x 38 h.has_multiple_versions l (omega arith) refl f.many i;
      padding = lies_byte s at x 39 h.padding l (omega arith) refl f.padding i;
    }

pub base_lies : (s : List ℕ) (at : ℕ) → Bytes s → at + base_len ≤ length s → Lies s at (base_bytes (base_fields s at))
unfolding Lies base_bytes base_front base_back base_fields
base_lies s at b h =
    let u0 = le-le_at s at 4 b (omega arith) in
    let u1 = part-next s at 4 2 (at + 4) _ _ u0 (le-le_at s (at + 4) 2 b (omega arith)) refl in
    let u2 = part-next s at 6 2 (at + 6) _ _ u1 (le-le_at s (at + 6) 2 b (omega arith)) refl in
    let u3 = part-next s at 8 8 (at + 8) _ _ u2 (le-le_at s (at + 8) 8 b (omega arith)) refl in
    let u4 = part-next s at 16 8 (at + 16) _ _ u3 (le-le_at s (at + 16) 8 b (omega arith)) refl in
    let v0 = le-le_at s (at + 24) 4 b (omega arith) in
    let v1 = part-next s (at + 24) 4 4 (at + 28) _ _ v0 (le-le_at s (at + 28) 4 b (omega arith)) (omega arith) in
    let v2 = part-next s (at + 24) 8 4 (at + 32) _ _ v1 (le-le_at s (at + 32) 4 b (omega arith)) (omega arith) in
    let v3 = part-next s (at + 24) 12 1 (at + 36) _ _ v2 (le_byte s (at + 36) b (omega arith)) (omega arith) in
    let v4 = part-next s (at + 24) 13 1 (at + 37) _ _ v3 (le_byte s (at + 37) b (omega arith)) (omega arith) in
    let v5 = part-next s (at + 24) 14 1 (at + 38) _ _ v4 (le_byte s (at + 38) b (omega arith)) (omega arith) in
    let v6 = part-next s (at + 24) 15 1 (at + 39) _ _ v5 (le_byte s (at + 39) b (omega arith)) (omega arith) in
    ap (part s at) (length_base (base_fields s at)) ∙ sym (part-next s at 24 16 (at + 24) _ _ u4 v6 refl)

-- the header is a function of its own bytes
pub base_same : (s t : List ℕ) (at : ℕ) → part s at base_len ≡ part t at base_len → base_fields s at ≡ base_fields t at
unfolding base_fields
base_same s t at e =
    let z : le_at 4 s at ≡ le_at 4 t at = ap (λ (k : ℕ). le_at 4 s k) (sym (add-zero at)) ∙ same_number s t at base_len 0 4 e (omega arith) ∙ ap (λ (k : ℕ). le_at 4 t k) (add-zero at) in
    λ i.
    record {
      size = z i;
      elems = same_number s t at base_len 4 2 e (omega arith) i;
      split_elems = same_number s t at base_len 6 2 e (omega arith) i;
      right_sibling = record { 0 = same_number s t at base_len 8 8 e (omega arith) i };
      merging_child = record { 0 = same_number s t at base_len 16 8 e (omega arith) i };
      lo_len = same_number s t at base_len 24 4 e (omega arith) i;
      hi_len = same_number s t at base_len 28 4 e (omega arith) i;
      prefix_len = same_number s t at base_len 32 4 e (omega arith) i;
      merging = same_byte s t at base_len 36 e (omega arith) i;
      is_index = same_byte s t at base_len 37 e (omega arith) i;
      has_multiple_versions = same_byte s t at base_len 38 e (omega arith) i;
      padding = same_byte s t at base_len 39 e (omega arith) i;
    }

-- ---- both headers of a page

pub length-heads : (x : BoxHeader) (h : BaseHeader) → length (page_bytes x h) ≡ slots_at
unfolding page_bytes
length-heads x h = length-append (box_bytes x) (base_bytes h) ∙ omega (arith, length_box x, length_base h)

pub put-heads : (a : List ℕ) (at : ℕ) (x : BoxHeader) (h : BaseHeader) (a₁ a₂ : List ℕ) → a₁ ≡ put a at (box_bytes x) → a₂ ≡ put a₁ (at + box_len) (base_bytes h) → a₂ ≡ put a at (page_bytes x h)
unfolding page_bytes
put-heads a at x h a₁ a₂ e₁ e₂ = put_chain a at (box_bytes x) (base_bytes h) e₁ e₂ (ap (λ (k : ℕ). at + k) (sym (length_box x)))

module _ (s : List ℕ) (at : ℕ) (x : BoxHeader) (h : BaseHeader) (l : Lies s at (page_bytes x h)) where
  pub box_of_heads : Lies s at (box_bytes x)
  unfolding page_bytes
  box_of_heads = lies_front s at (box_bytes x) (base_bytes h) l

  pub base_of_heads : Lies s (at + box_len) (base_bytes h)
  unfolding page_bytes
  base_of_heads = rw (length_box x) at (lies_back s at (box_bytes x) (base_bytes h) l)
