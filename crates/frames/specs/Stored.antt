-- The two headers as bytes: their fields in order, each of its width, the lowest byte first; and the base header that a build makes.
-- Assumes nothing.
use Rattle.std.specs.Prelude.{List, ◌++◌, ℕ}
use Rattle.numbers.specs.Number.{le}
use Rattle.frames.specs.declared.BoxHeader.{BoxHeader}
use Rattle.frames.specs.declared.BaseHeader.{BaseHeader}
use Rattle.frames.specs.Layout.{page_id, null_pid}

-- "payload_size u32; kind u8; node_type u8; flag u8; group u8; link, txid, lsn u64"
unfoldable pub box_bytes : BoxHeader → List ℕ
box_bytes h =
    le 4 h.payload_size
    ++ le 1 h.box_kind
    ++ le 1 h.node_type
    ++ le 1 h.flag
    ++ le 1 h.group
    ++ le 8 h.link.0
    ++ le 8 h.txid
    ++ le 8 h.lsn

-- "size u32; elems, split_elems u16; right_sibling, merging_child u64"
unfoldable pub base_front : BaseHeader → List ℕ
base_front h = le 4 h.size ++ le 2 h.elems ++ le 2 h.split_elems ++ le 8 h.right_sibling.0 ++ le 8 h.merging_child.0

-- "lo_len, hi_len, prefix_len u32; merging, is_index, has_multiple_versions, padding u8"
unfoldable pub base_back : BaseHeader → List ℕ
base_back h =
    le 4 h.lo_len
    ++ le 4 h.hi_len
    ++ le 4 h.prefix_len
    ++ le 1 h.merging
    ++ le 1 h.is_index
    ++ le 1 h.has_multiple_versions
    ++ le 1 h.padding

unfoldable pub base_bytes : BaseHeader → List ℕ
base_bytes h = base_front h ++ base_back h

-- both headers of a page
unfoldable pub page_bytes : BoxHeader → BaseHeader → List ℕ
unfolding box_bytes base_bytes
page_bytes x h = box_bytes x ++ base_bytes h

-- "split_elems, merging_child, merging and padding are 0"
abbrev pub base_of : ℕ → ℕ → ℕ → ℕ → ℕ → ℕ → ℕ → ℕ → BaseHeader
base_of size elems sibling lo hi prefix index many =
    record {
      size = size;
      elems = elems;
      split_elems = 0;
      right_sibling = page_id sibling;
      merging_child = null_pid;
      lo_len = lo;
      hi_len = hi;
      prefix_len = prefix;
      merging = 0;
      is_index = index;
      has_multiple_versions = many;
      padding = 0;
    }
