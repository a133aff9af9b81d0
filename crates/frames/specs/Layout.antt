-- Frames as document 01 lays them out and DECIDED 8 to 11 settle it: read from an arena, a list of bytes. Its words stand over each line.
-- Assumes nothing.
use Rattle.std.specs.Prelude.{ℕ, ◌+◌, ◌*◌, ◌/◌, ◌%◌, ◌≤◌, ◌≡◌, List, Bool, true, ◌&&◌, ◌||◌, not, cond, length, get_or, ltb, leb, eqb, Option, Some, None}
use Rattle.numbers.specs.Number.{le_at}
use Rattle.frames.specs.declared.Addr.{Addr}
use Rattle.frames.specs.declared.PageId.{PageId}
use Rattle.frames.specs.declared.BoxHeader.{BoxHeader}
use Rattle.frames.specs.declared.BaseHeader.{BaseHeader}
use Rattle.frames.specs.declared.Body.{Body}
use Rattle.frames.specs.declared.Delta.{Delta}
use Rattle.frames.specs.Limits.{max_key}

-- "Box header, 32"; "Base header, 40"
abbrev pub box_len : ℕ
box_len = 32

abbrev pub base_len : ℕ
base_len = 40

-- where a page's slots stand in its frame: behind both headers
abbrev pub slots_at : ℕ
slots_at = box_len + base_len

-- "Delta payload: klen u32, vlen u32, key, value": the two lengths, and where the key stands in its frame
abbrev pub delta_lens : ℕ
delta_lens = 8

abbrev pub delta_key_at : ℕ
delta_key_at = box_len + delta_lens

-- "kind u8 (1 base, 2 delta, 3 remote)"
abbrev pub box_base : ℕ
box_base = 1

abbrev pub box_delta : ℕ
box_delta = 2

abbrev pub box_remote : ℕ
box_remote = 3

-- "node_type u8 (1 leaf, 2 index)"
abbrev pub node_leaf : ℕ
node_leaf = 1

abbrev pub node_index : ℕ
node_index = 2

-- "flag u8 (1 sibling, else 0)"
abbrev pub flag_sibling : ℕ
flag_sibling = 1

abbrev pub addr : ℕ → Addr
addr n = record { 0 = n }

abbrev pub page_id : ℕ → PageId
page_id n = record { 0 = n }

-- "0 is none (NULL_ADDR)"; "0 is also no page id (NULL_PID)"
abbrev pub null_addr : Addr
null_addr = addr 0

abbrev pub null_pid : PageId
null_pid = page_id 0

-- "A frame takes 32 + payload bytes, rounded up to 8"
abbrev pub frame_len : ℕ → ℕ
frame_len payload = (payload + box_len + 7) / 8 * 8

-- ---- Box header

-- "payload_size u32; kind u8; node_type u8; flag u8; group u8; link, txid, lsn u64"
unfoldable pub box_fields : List ℕ → ℕ → BoxHeader
box_fields s at =
    record {
      payload_size = le_at 4 s at;
      box_kind = get_or s (at + 4) 0;
      node_type = get_or s (at + 5) 0;
      flag = get_or s (at + 6) 0;
      group = get_or s (at + 7) 0;
      link = addr (le_at 8 s (at + 8));
      txid = le_at 8 s (at + 16);
      lsn = le_at 8 s (at + 24);
    }

-- "An address is .. a multiple of 8, at least 8"
abbrev pub address_ok : ℕ → Bool
address_ok at = leb 8 at && eqb (at % 8) 0

-- "kind u8 (1 base, 2 delta, 3 remote); node_type u8 (1 leaf, 2 index)"
abbrev pub box_kind_ok : BoxHeader → Bool
box_kind_ok h = leb box_base h.box_kind && leb h.box_kind box_remote && leb node_leaf h.node_type && leb h.node_type node_index

-- "A history page is: kind base, node_type leaf, flag sibling"
abbrev pub is_history : BoxHeader → Bool
is_history h = eqb h.box_kind box_base && eqb h.node_type node_leaf && eqb h.flag flag_sibling

-- "flag u8 (1 sibling, else 0)", and 1 on history pages only
abbrev pub flag_ok : BoxHeader → Bool
flag_ok h = eqb h.flag 0 || is_history h

-- "link is 0 but on history pages", and there "0 or above its own address"
abbrev pub link_ok : BoxHeader → ℕ → Bool
link_ok h at = eqb h.link.0 0 || (is_history h && ltb at h.link.0)

-- "A remote frame has txid 0, node_type 1"
abbrev pub remote_ok : BoxHeader → Bool
remote_ok h = not (eqb h.box_kind box_remote) || (eqb h.txid 0 && eqb h.node_type node_leaf)

-- "An address is a frame's when that stretch lies in the arena and its box header is as laid out"
unfoldable pub box_ok : BoxHeader → ℕ → ℕ → Bool
box_ok h at len = address_ok at && box_kind_ok h && flag_ok h && link_ok h at && remote_ok h && leb (at + frame_len h.payload_size) len

unfoldable pub box_at : List ℕ → Addr → Option BoxHeader
box_at s a =
    cond (leb (a.0 + box_len) (length s))
    (cond (box_ok (box_fields s a.0) a.0 (length s)) (Some (box_fields s a.0)) None)
    None

-- ---- Base header

-- "size u32; elems, split_elems u16; right_sibling, merging_child u64; lo_len, hi_len, prefix_len u32; merging, is_index,
-- has_multiple_versions, padding u8"
unfoldable pub base_fields : List ℕ → ℕ → BaseHeader
base_fields s at =
    record {
      size = le_at 4 s at;
      elems = le_at 2 s (at + 4);
      split_elems = le_at 2 s (at + 6);
      right_sibling = page_id (le_at 8 s (at + 8));
      merging_child = page_id (le_at 8 s (at + 16));
      lo_len = le_at 4 s (at + 24);
      hi_len = le_at 4 s (at + 28);
      prefix_len = le_at 4 s (at + 32);
      merging = get_or s (at + 36) 0;
      is_index = get_or s (at + 37) 0;
      has_multiple_versions = get_or s (at + 38) 0;
      padding = get_or s (at + 39) 0;
    }

-- "split_elems, merging_child, merging and padding are 0"
abbrev pub zeros_ok : BaseHeader → Bool
zeros_ok b = eqb b.split_elems 0 && eqb b.merging_child.0 0 && eqb b.merging 0 && eqb b.padding 0

-- "is_index is 1 exactly when node_type is 2"
abbrev pub leaf_ok : BoxHeader → BaseHeader → Bool
leaf_ok h b = eqb b.is_index 0 && eqb h.node_type node_leaf

abbrev pub index_ok : BoxHeader → BaseHeader → Bool
index_ok h b = eqb b.is_index 1 && eqb h.node_type node_index

-- "has_multiple_versions is 0 or 1, and 0 on index and history pages"
abbrev pub many_ok : BoxHeader → BaseHeader → Bool
many_ok h b = eqb b.has_multiple_versions 0 || (eqb b.has_multiple_versions 1 && leaf_ok h b && eqb h.flag 0)

-- "a history page has at least one element, no boundaries, sibling 0"
abbrev pub history_ok : BoxHeader → BaseHeader → Bool
history_ok h b = eqb h.flag 0 || (leb 1 b.elems && (eqb b.lo_len 0 && eqb b.hi_len 0 && eqb b.right_sibling.0 0))

-- "Index and history pages have payload_size equal to size"
abbrev pub payload_ok : BoxHeader → BaseHeader → Bool
payload_ok h b = (leaf_ok h b && eqb h.flag 0) || eqb b.size h.payload_size

-- "lo_len and hi_len ≤ 4,096"
abbrev pub lengths_ok : BaseHeader → Bool
lengths_ok b = leb b.lo_len max_key && leb b.hi_len max_key

-- "prefix_len ≤ lo_len"; "size ≤ payload_size"; "size ≥ 40 + 4·elems + lo_len + hi_len"
unfoldable pub base_ok : BoxHeader → BaseHeader → Bool
base_ok h b =
    zeros_ok b
    && (leaf_ok h b || index_ok h b)
    && many_ok h b
    && history_ok h b
    && payload_ok h b
    && lengths_ok b
    && leb b.prefix_len b.lo_len
    && leb b.size h.payload_size
    && leb (base_len + 4 * b.elems + b.lo_len + b.hi_len) b.size

-- what the headers of every base page say, whatever its kind
pub record AnyBase (x : BoxHeader) (h : BaseHeader) (at len : ℕ) : Type 0 where
  pub address : address_ok at ≡ true
  pub kind : x.box_kind ≡ box_base
  pub zeros : zeros_ok h ≡ true
  pub front : leb (base_len + 4 * h.elems + h.lo_len + h.hi_len) h.size ≡ true
  pub fits : leb (at + frame_len x.payload_size) len ≡ true

-- both headers are those of a base page
abbrev pub Passes : BoxHeader → BaseHeader → ℕ → ℕ → Type 0
Passes x h at len = (box_ok x at len ≡ true) × (x.box_kind ≡ box_base) × (base_ok x h ≡ true)

-- of a frame, the base page that it is
abbrev pub page_of : List ℕ → ℕ → Option BoxHeader → Option (BoxHeader × BaseHeader)
page_of s at (Some h) =
    cond (eqb h.box_kind box_base)
    (cond (leb base_len h.payload_size)
    (cond (base_ok h (base_fields s (at + box_len))) (Some (h, base_fields s (at + box_len))) None)
    None)
    None
page_of s at None = None

unfoldable pub page_at : List ℕ → Addr → Option (BoxHeader × BaseHeader)
page_at s a = page_of s a.0 (box_at s a)

-- ---- A page's places

-- leaf 0, index 1, history 2
unfoldable pub kind_of : ℕ → ℕ → ℕ
kind_of flag i = cond (eqb flag flag_sibling) 2 (cond (eqb i 1) 1 0)

-- "Page: base header, elems slots of u32, lo, hi, records. Hints follow at size"
unfoldable pub body_of : Addr → BoxHeader → BaseHeader → Body
body_of a x h =
    record {
      at = a.0 + box_len;
      end = a.0 + box_len + h.size;
      tail = a.0 + box_len + x.payload_size;
      elems = h.elems;
      first = a.0 + box_len + base_len + 4 * h.elems + h.lo_len + h.hi_len;
      kind = kind_of x.flag h.is_index;
      prefix_len = h.prefix_len;
      lo_len = h.lo_len;
      hi_len = h.hi_len;
      sibling = h.right_sibling;
      multi = h.has_multiple_versions;
      link = x.link;
    }

abbrev pub open_of : Addr → Option (BoxHeader × BaseHeader) → Option Body
open_of a (Some (x, h)) = Some (body_of a x h)
open_of a None = None

-- the base page at an address, of any kind
unfoldable pub open_at : List ℕ → Addr → Option Body
open_at s a = open_of a (page_at s a)

-- slots, boundaries and records stand in the page, and the page in the arena
pub record Inside (s : List ℕ) (b : Body) : Type 0 where
  pub slots : b.at + base_len + 4 * b.elems + b.lo_len + b.hi_len ≡ b.first
  pub records : b.first ≤ b.end
  pub payload : b.end ≤ b.tail
  pub arena : b.tail ≤ length s
  pub prefix : b.prefix_len ≤ b.lo_len

-- ---- The other kinds

-- "Remote frame payload: size u64, bytes", "exactly 8 + size": where the n bytes stand
abbrev pub remote_of : List ℕ → ℕ → ℕ → Option BoxHeader → Option ℕ
remote_of s at n (Some h) =
    cond (eqb h.box_kind box_remote)
    (cond (eqb h.payload_size (8 + n))
    (cond (eqb (le_at 8 s (at + box_len)) n) (Some (at + box_len + 8)) None)
    None)
    None
remote_of s at n None = None

unfoldable pub remote_at : List ℕ → Addr → ℕ → Option ℕ
remote_at s a n = remote_of s a.0 n (box_at s a)

-- "Delta payload: klen u32, vlen u32, key, value", "exactly 8 + klen + vlen"
abbrev pub cut_at : List ℕ → ℕ → BoxHeader → Delta
cut_at s p h =
    record {
      key_at = p + delta_lens;
      val_at = p + delta_lens + le_at 4 s p;
      end = p + delta_lens + le_at 4 s p + le_at 4 s (p + 4);
      node_type = h.node_type;
      txid = h.txid;
    }

abbrev pub delta_of : List ℕ → ℕ → Option BoxHeader → Option Delta
delta_of s at (Some h) =
    cond (eqb h.box_kind box_delta)
    (cond (leb delta_lens h.payload_size)
    (cond (eqb h.payload_size (delta_lens + le_at 4 s (at + box_len) + le_at 4 s (at + box_len + 4))) (Some (cut_at s (at + box_len) h)) None)
    None)
    None
delta_of s at None = None

unfoldable pub delta_at : List ℕ → Addr → Option Delta
delta_at s a = delta_of s a.0 (box_at s a)
