-- The bytes that a delta takes: document 01, "Layouts" and delta.rs, in its order. The remote frame first, then the delta's frame.
-- Assumes nothing.
use Rattle.std.specs.Prelude.{ℕ, ◌+◌, List, [], ◌++◌, false, cond, length, ltb}
use Rattle.numbers.specs.Number.{le}
use Rattle.order.specs.declared.Ver.{Ver}
use Rattle.frames.specs.declared.PageId.{PageId}
use Rattle.frames.specs.Layout.{box_delta, node_leaf, node_index, frame_len}
use Rattle.frames.specs.Stored.{box_bytes}
use Rattle.values.specs.Keys.{leaf_key, index_key, leaf_key_size, index_key_size}
use Rattle.values.specs.Vals.{no_hist, inline_bytes, remote_bytes, size_of}
use Rattle.build_image.specs.declared.Call.{Call}
use Rattle.build_image.specs.Sizes.{pad}
use Rattle.build_image.specs.Image.{box_of, remote_frame}

-- "Inline exactly when size is below the inline limit"; a delta's value has no history
unfoldable pub value_of : ℕ → ℕ → List ℕ → List ℕ
value_of limit remote v = cond (ltb (length v) limit) (inline_bytes no_hist v) (remote_bytes no_hist (length v) remote)

-- "its remote frame, if any, comes first"
unfoldable pub remote_of : Call → List ℕ → List ℕ
remote_of m v = cond (ltb (length v) m.limit) [] (remote_frame m v)

-- "Delta payload: klen u32, vlen u32, key, value"; "klen and vlen of a delta are the encoded sizes". Box header: kind 2, "link is 0 but
-- on history pages"
unfoldable pub delta_head : Call → ℕ → ℕ → ℕ → List ℕ
delta_head m node k v = box_bytes (box_of m (8 + k + v) box_delta node 0 0 m.txid) ++ (le 4 k ++ le 4 v)

unfoldable pub delta_frame : Call → ℕ → List ℕ → List ℕ → List ℕ
unfolding delta_head
delta_frame m node key val = delta_head m node (length key) (length val) ++ (key ++ (val ++ pad (8 + length key + length val)))

-- "A delta key drops no prefix"; "Leaf key: LEB128 length of the rest, version, key"
unfoldable pub leaf_frame : Call → ℕ → Ver → List ℕ → List ℕ → List ℕ
unfolding delta_frame
leaf_frame m remote ver key v = delta_frame m node_leaf (leaf_key ver key) (value_of m.limit remote v)

-- "Index key: length, key; its value is a page id u64"
unfoldable pub index_frame : Call → List ℕ → PageId → List ℕ
unfolding delta_frame
index_frame m key page = delta_frame m node_index (index_key key) (le 8 page.0)

-- all that a leaf delta writes, from `at` on
unfoldable pub leaf_delta : Call → ℕ → Ver → List ℕ → List ℕ → List ℕ
unfolding remote_of leaf_frame
leaf_delta m at ver key v = remote_of m v ++ leaf_frame m at ver key v

-- ---- sizes, on numbers

-- the frames, rounded; the encoded sizes: "leaf: LEB128 + 12 + key, and 5 + n or 13; index: LEB128 + key, and 8"
unfoldable pub leaf_len : ℕ → ℕ → ℕ → ℕ
unfolding leaf_key_size
leaf_len limit n v = frame_len (8 + leaf_key_size n + size_of false limit v)

unfoldable pub index_len : ℕ → ℕ
unfolding index_key_size
index_len n = frame_len (8 + index_key_size n + 8)
