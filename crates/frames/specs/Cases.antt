-- P5, P6 and P7 of document 01, as far as frames go: the whole arena of P7, its four headers, and how far its frames reach.
-- Assumes nothing.
use Rattle.std.specs.Prelude.{ℕ, ◌+◌, ◌≡◌, refl, List, [], ◌∷◌, Some, None}
use Rattle.spans.specs.Span.{part}
use Rattle.numbers.specs.Number.{le, of_le, le_at}
use Rattle.frames.specs.declared.BoxHeader.{BoxHeader}
use Rattle.frames.specs.declared.BaseHeader.{BaseHeader}
use Rattle.frames.specs.Layout.{box_len, base_len, box_base, node_leaf, flag_sibling, addr, null_addr, frame_len, box_fields, box_ok, box_at, base_fields, base_ok, page_at, kind_of, body_of, open_at}
use Rattle.frames.specs.Stored.{box_bytes, base_of, base_front, base_back, base_bytes}

-- P7 "P5 plus (3,0) "z": history page at 8, leaf at 104, size 85, payload 101, 6 unused bytes, history (8, 0, 1), new next 240"
unfoldable pub p7 : List ℕ
p7 =
    0 ∷ 0 ∷ 0 ∷ 0 ∷ 0 ∷ 0 ∷ 0 ∷ 0 ∷
    62 ∷ 0 ∷ 0 ∷ 0 ∷ 1 ∷ 1 ∷ 1 ∷ 0 ∷ 0 ∷ 0 ∷ 0 ∷ 0 ∷ 0 ∷ 0 ∷ 0 ∷ 0 ∷ 0 ∷ 0 ∷ 0 ∷ 0 ∷ 0 ∷ 0 ∷ 0 ∷ 0 ∷ 0 ∷ 0 ∷ 0 ∷ 0 ∷ 0 ∷ 0 ∷ 0 ∷ 0 ∷
    62 ∷ 0 ∷ 0 ∷ 0 ∷ 1 ∷ 0 ∷ 0 ∷ 0 ∷ 0 ∷ 0 ∷ 0 ∷ 0 ∷ 0 ∷ 0 ∷ 0 ∷ 0 ∷ 0 ∷ 0 ∷ 0 ∷ 0 ∷ 0 ∷ 0 ∷ 0 ∷ 0 ∷ 0 ∷ 0 ∷ 0 ∷ 0 ∷ 0 ∷ 0 ∷ 0 ∷ 0 ∷ 0 ∷ 0 ∷ 0 ∷ 0 ∷ 0 ∷ 0 ∷ 0 ∷ 0 ∷
    44 ∷ 0 ∷ 0 ∷ 0 ∷
    3 ∷ 0 ∷ 0 ∷ 0 ∷ 0 ∷ 0 ∷ 0 ∷ 0 ∷ 0 ∷ 0 ∷ 0 ∷ 0 ∷
    0 ∷ 1 ∷ 0 ∷ 0 ∷ 0 ∷ 122 ∷
    0 ∷ 0 ∷
    101 ∷ 0 ∷ 0 ∷ 0 ∷ 1 ∷ 1 ∷ 0 ∷ 0 ∷ 0 ∷ 0 ∷ 0 ∷ 0 ∷ 0 ∷ 0 ∷ 0 ∷ 0 ∷ 0 ∷ 0 ∷ 0 ∷ 0 ∷ 0 ∷ 0 ∷ 0 ∷ 0 ∷ 0 ∷ 0 ∷ 0 ∷ 0 ∷ 0 ∷ 0 ∷ 0 ∷ 0 ∷
    85 ∷ 0 ∷ 0 ∷ 0 ∷ 1 ∷ 0 ∷ 0 ∷ 0 ∷ 0 ∷ 0 ∷ 0 ∷ 0 ∷ 0 ∷ 0 ∷ 0 ∷ 0 ∷ 0 ∷ 0 ∷ 0 ∷ 0 ∷ 0 ∷ 0 ∷ 0 ∷ 0 ∷ 0 ∷ 0 ∷ 0 ∷ 0 ∷ 0 ∷ 0 ∷ 0 ∷ 0 ∷ 0 ∷ 0 ∷ 0 ∷ 0 ∷ 0 ∷ 0 ∷ 1 ∷ 0 ∷
    44 ∷ 0 ∷ 0 ∷ 0 ∷
    13 ∷ 5 ∷ 0 ∷ 0 ∷ 0 ∷ 0 ∷ 0 ∷ 0 ∷ 0 ∷ 0 ∷ 0 ∷ 0 ∷ 0 ∷
    97 ∷
    1 ∷ 8 ∷ 0 ∷ 0 ∷ 0 ∷ 0 ∷ 0 ∷ 0 ∷ 0 ∷ 0 ∷ 0 ∷ 1 ∷ 0 ∷ 0 ∷ 0 ∷
    2 ∷ 0 ∷ 0 ∷ 0 ∷ 120 ∷ 121 ∷
    0 ∷ 0 ∷ 0 ∷ 0 ∷ 0 ∷ 0 ∷
    1 ∷ 0 ∷ 0 ∷ 0 ∷ 8 ∷ 0 ∷ 0 ∷ 0 ∷ 0 ∷ 0 ∷ 0 ∷ 0 ∷ 0 ∷ 0 ∷ 0 ∷ 0 ∷
    0 ∷ 0 ∷ 0 ∷ []

abbrev pub p7_history_box : BoxHeader
p7_history_box = record { payload_size = 62; box_kind = box_base; node_type = node_leaf; flag = flag_sibling; group = 0; link = null_addr; txid = 0; lsn = 0 }

abbrev pub p7_leaf_box : BoxHeader
p7_leaf_box = record { payload_size = 101; box_kind = box_base; node_type = node_leaf; flag = 0; group = 0; link = null_addr; txid = 0; lsn = 0 }

abbrev pub p7_base : ℕ → ℕ → BaseHeader
p7_base size many = base_of size 1 0 0 0 0 0 many

-- the headers' bytes stand where P7 says
pub p7_headers : (part p7 8 box_len ≡ box_bytes p7_history_box) × (part p7 (8 + box_len) base_len ≡ base_bytes (p7_base 62 0)) × (part p7 104 box_len ≡ box_bytes p7_leaf_box) × (part p7 (104 + box_len) base_len ≡ base_bytes (p7_base 85 1))
unfolding p7 part le box_bytes base_front base_back base_bytes
p7_headers = (refl, refl, refl, refl)

-- and are read as a history page and a leaf; the places 0, 12 and 112 are no frame's
pub p7-opens : (open_at p7 (addr 8) ≡ Some (body_of (addr 8) p7_history_box (p7_base 62 0))) × (open_at p7 (addr 104) ≡ Some (body_of (addr 104) p7_leaf_box (p7_base 85 1)))
    × (open_at p7 (addr 0) ≡ None) × (open_at p7 (addr 12) ≡ None) × (open_at p7 (addr 112) ≡ None)
unfolding p7 part of_le le_at box_fields box_ok box_at base_fields base_ok page_at kind_of body_of open_at
p7-opens = (refl, refl, refl, refl, refl)

-- "size 65 .. new next 112"; "leaf at 104", "new next 240"
pub reaches : (8 + frame_len 65 ≡ 112) × (8 + frame_len 62 ≡ 104) × (104 + frame_len 101 ≡ 240)
reaches = (refl, refl, refl)
