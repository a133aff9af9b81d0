-- P9 and P13 of document 01, on whole arenas as the Rust built them (tests/vectors/cases.txt), with every answer of the Rust there.
-- Assumes nothing.
use Rattle.std.specs.Prelude.{ℕ, ◌≡◌, refl, List, [], ◌∷◌, ◌++◌, replicate, Ok}
use Rattle.spans.specs.Span.{part, part_or}
use Rattle.numbers.specs.Number.{of_le, le_at}
use Rattle.lengths.specs.Leb128.{carry, dec, within, read_len}
use Rattle.order.specs.Order.{cmp_bytes, starts_with}
use Rattle.order.specs.Version.{ver_of, newer_than}
use Rattle.frames.specs.Layout.{addr, page_id, box_fields, box_ok, box_at, base_fields, base_ok, page_at, kind_of, body_of, open_at, remote_at}
use Rattle.values.specs.Keys.{ver_in, skip_of, key_at}
use Rattle.values.specs.Vals.{no_hist, ref_at, front_at, val_at}
use Rattle.records.specs.Records.{slot_at, key_in, key_at_slot, val_in, rec_in, rec_at}
use Rattle.records.specs.Parts.{prefix_in}
use Rattle.pages.specs.Boundaries.{place, part_in}
use Rattle.sst.specs.Halve.{halve}
use Rattle.sst.specs.Search.{newer_at, key_cmp, right_kind, ready_at, fits_prefix, halved, elsewhere, probed, outcome_at, page_in, head_in, lower_at, floor_at, search_at}
use Rattle.sst.specs.Refused.{floor_number, found_number}
use Rattle.sst.specs.declared.Bound.{Bound}
use Rattle.sst.specs.declared.Floor.{Floor}
use Rattle.sst.specs.declared.Found.{Found}

-- the index page with b → 20 and d → 40, at 8
unfoldable pub p9 : List ℕ
p9 =
    2 ∷ 2 ∷ 2 ∷ 2 ∷ 2 ∷ 2 ∷ 2 ∷ 2 ∷ 68 ∷ 0 ∷ 0 ∷ 0 ∷ 1 ∷ 2 ∷ 0 ∷ 0 ∷ 0 ∷ 0 ∷ 0 ∷ 0 ∷ 0 ∷ 0 ∷ 0 ∷ 0 ∷ 5 ∷ 0 ∷ 0 ∷ 0 ∷ 0 ∷ 0 ∷ 0 ∷ 0 ∷
    0 ∷ 0 ∷ 0 ∷ 0 ∷ 0 ∷ 0 ∷ 0 ∷ 0 ∷ 68 ∷ 0 ∷ 0 ∷ 0 ∷ 2 ∷ 0 ∷ 0 ∷ 0 ∷ 0 ∷ 0 ∷ 0 ∷ 0 ∷ 0 ∷ 0 ∷ 0 ∷ 0 ∷ 0 ∷ 0 ∷ 0 ∷ 0 ∷ 0 ∷ 0 ∷ 0 ∷ 0 ∷
    0 ∷ 0 ∷ 0 ∷ 0 ∷ 0 ∷ 0 ∷ 0 ∷ 0 ∷ 0 ∷ 0 ∷ 0 ∷ 0 ∷ 0 ∷ 1 ∷ 0 ∷ 0 ∷ 48 ∷ 0 ∷ 0 ∷ 0 ∷ 58 ∷ 0 ∷ 0 ∷ 0 ∷ 1 ∷ 98 ∷ 20 ∷ 0 ∷ 0 ∷ 0 ∷ 0 ∷ 0 ∷
    0 ∷ 0 ∷ 1 ∷ 100 ∷ 40 ∷ 0 ∷ 0 ∷ 0 ∷ 0 ∷ 0 ∷ 0 ∷ 0 ∷ 0 ∷ 0 ∷ 0 ∷ 0 ∷ []

-- "keys b, d: floor of a, c, d, e is 0, 0, 1, 1"; of b 0
pub P9 : (floor_at p9 (addr 8) (97 ∷ []) ≡ Ok (Floor.Is 0 (page_id 20) 2)) × (floor_at p9 (addr 8) (99 ∷ []) ≡ Ok (Floor.Is 0 (page_id 20) 2)) × (floor_at p9 (addr 8) (100 ∷ []) ≡ Ok (Floor.Is 1 (page_id 40) 1)) × (floor_at p9 (addr 8) (101 ∷ []) ≡ Ok (Floor.Is 1 (page_id 40) 1)) × (floor_at p9 (addr 8) (98 ∷ []) ≡ Ok (Floor.Is 0 (page_id 20) 2))
unfolding p9 part part_or of_le le_at box_fields box_ok box_at base_fields base_ok page_at kind_of body_of open_at remote_at carry dec within read_len cmp_bytes starts_with newer_than skip_of key_at ref_at front_at val_at slot_at ver_in key_in key_at_slot val_in rec_in rec_at prefix_in halve newer_at key_cmp right_kind ready_at fits_prefix halved elsewhere probed outcome_at page_in head_in lower_at floor_at search_at
P9 = (refl, refl, refl, refl, refl)

-- lo 00 00, hi 00 FF: the leaf with 00 D4 at 8, and the index page with 00 D4 → 9 at 512
unfoldable pub p13 : List ℕ
p13 =
    4 ∷ 4 ∷ 4 ∷ 4 ∷ 4 ∷ 4 ∷ 4 ∷ 4 ∷ 68 ∷ 0 ∷ 0 ∷ 0 ∷ 1 ∷ 1 ∷ 0 ∷ 0 ∷ 0 ∷ 0 ∷ 0 ∷ 0 ∷ 0 ∷ 0 ∷ 0 ∷ 0 ∷ 5 ∷ 0 ∷ 0 ∷ 0 ∷ 0 ∷ 0 ∷ 0 ∷ 0 ∷
    0 ∷ 0 ∷ 0 ∷ 0 ∷ 0 ∷ 0 ∷ 0 ∷ 0 ∷ 68 ∷ 0 ∷ 0 ∷ 0 ∷ 1 ∷ 0 ∷ 0 ∷ 0 ∷ 0 ∷ 0 ∷ 0 ∷ 0 ∷ 0 ∷ 0 ∷ 0 ∷ 0 ∷ 0 ∷ 0 ∷ 0 ∷ 0 ∷ 0 ∷ 0 ∷ 0 ∷ 0 ∷
    2 ∷ 0 ∷ 0 ∷ 0 ∷ 2 ∷ 0 ∷ 0 ∷ 0 ∷ 1 ∷ 0 ∷ 0 ∷ 0 ∷ 0 ∷ 0 ∷ 0 ∷ 0 ∷ 48 ∷ 0 ∷ 0 ∷ 0 ∷ 0 ∷ 0 ∷ 0 ∷ 255 ∷ 13 ∷ 5 ∷ 0 ∷ 0 ∷ 0 ∷ 0 ∷ 0 ∷ 0 ∷
    0 ∷ 0 ∷ 0 ∷ 0 ∷ 0 ∷ 212 ∷ 0 ∷ 1 ∷ 0 ∷ 0 ∷ 0 ∷ 120 ∷ 0 ∷ 0 ∷ 0 ∷ 0 ∷
    (replicate 400 4 ++
    58 ∷ 0 ∷ 0 ∷ 0 ∷ 1 ∷ 2 ∷ 0 ∷ 0 ∷ 0 ∷ 0 ∷ 0 ∷ 0 ∷ 0 ∷ 0 ∷ 0 ∷ 0 ∷ 5 ∷ 0 ∷ 0 ∷ 0 ∷ 0 ∷ 0 ∷ 0 ∷ 0 ∷ 0 ∷ 0 ∷ 0 ∷ 0 ∷ 0 ∷ 0 ∷ 0 ∷ 0 ∷
    58 ∷ 0 ∷ 0 ∷ 0 ∷ 1 ∷ 0 ∷ 0 ∷ 0 ∷ 0 ∷ 0 ∷ 0 ∷ 0 ∷ 0 ∷ 0 ∷ 0 ∷ 0 ∷ 0 ∷ 0 ∷ 0 ∷ 0 ∷ 0 ∷ 0 ∷ 0 ∷ 0 ∷ 2 ∷ 0 ∷ 0 ∷ 0 ∷ 2 ∷ 0 ∷ 0 ∷ 0 ∷
    1 ∷ 0 ∷ 0 ∷ 0 ∷ 0 ∷ 1 ∷ 0 ∷ 0 ∷ 48 ∷ 0 ∷ 0 ∷ 0 ∷ 0 ∷ 0 ∷ 0 ∷ 255 ∷ 1 ∷ 212 ∷ 9 ∷ 0 ∷ 0 ∷ 0 ∷ 0 ∷ 0 ∷ 0 ∷ 0 ∷ 0 ∷ 0 ∷ 0 ∷ 0 ∷ 0 ∷ 0 ∷ [])

-- "lo 00 00, hi 00 FF, key 00 D4": "P13 becomes none" for the probe FE D4, and no key is read; it is past the end, and floor gives the last slot
pub P13 : (search_at p13 (addr 8) (254 ∷ 212 ∷ []) ≡ Ok (Found.Nothing 0)) × (lower_at p13 (addr 8) (254 ∷ 212 ∷ []) (ver_of 5 0) ≡ Ok (Bound.PastEnd 1 0)) × (floor_at p13 (addr 512) (254 ∷ 212 ∷ []) ≡ Ok (Floor.Is 0 (page_id 9) 0))
unfolding p13 part part_or of_le le_at box_fields box_ok box_at base_fields base_ok page_at kind_of body_of open_at remote_at carry dec within read_len cmp_bytes starts_with newer_than skip_of key_at ref_at front_at val_at slot_at ver_in key_in key_at_slot val_in rec_in rec_at prefix_in halve newer_at key_cmp right_kind ready_at fits_prefix halved elsewhere probed outcome_at page_in head_in lower_at floor_at search_at
P13 = (refl, refl, refl)

-- and the same page's other answers: of 00 D4, of the prefix alone, of what is shorter and so below it
pub P13_leaf : (search_at p13 (addr 8) (0 ∷ 212 ∷ []) ≡ Ok (Found.Is 0 (ver_of 5 0) no_hist (place 107 1) 1)) × (part_in p13 (place 107 1) ≡ 120 ∷ []) × (search_at p13 (addr 8) (0 ∷ []) ≡ Ok (Found.Nothing 1)) × (search_at p13 (addr 8) [] ≡ Ok (Found.Nothing 0)) × (search_at p13 (addr 8) (254 ∷ []) ≡ Ok (Found.Nothing 0))
unfolding p13 part part_or of_le le_at box_fields box_ok box_at base_fields base_ok page_at kind_of body_of open_at remote_at carry dec within read_len cmp_bytes starts_with newer_than skip_of key_at ref_at front_at val_at slot_at ver_in key_in key_at_slot val_in rec_in rec_at prefix_in halve newer_at key_cmp right_kind ready_at fits_prefix halved elsewhere probed outcome_at page_in head_in lower_at floor_at search_at
P13_leaf = (refl, refl, refl, refl, refl)

pub P13_lower : (lower_at p13 (addr 8) (0 ∷ 212 ∷ []) (ver_of 5 0) ≡ Ok (Bound.At 0 1)) × (lower_at p13 (addr 8) (0 ∷ []) (ver_of 5 0) ≡ Ok (Bound.At 0 1)) × (lower_at p13 (addr 8) (0 ∷ 212 ∷ []) (ver_of 4 0) ≡ Ok (Bound.PastEnd 1 1)) × (lower_at p13 (addr 8) [] (ver_of 5 0) ≡ Ok (Bound.At 0 0))
unfolding p13 part part_or of_le le_at box_fields box_ok box_at base_fields base_ok page_at kind_of body_of open_at remote_at carry dec within read_len cmp_bytes starts_with newer_than skip_of key_at ref_at front_at val_at slot_at ver_in key_in key_at_slot val_in rec_in rec_at prefix_in halve newer_at key_cmp right_kind ready_at fits_prefix halved elsewhere probed outcome_at page_in head_in lower_at floor_at search_at
P13_lower = (refl, refl, refl, refl)

-- of the other kind of page: 4
pub P13_index : (floor_at p13 (addr 512) (0 ∷ 212 ∷ []) ≡ Ok (Floor.Is 0 (page_id 9) 1)) × (lower_at p13 (addr 512) (0 ∷ 212 ∷ []) (ver_of 5 0) ≡ Ok (Bound.At 0 1)) × (found_number (search_at p13 (addr 512) (254 ∷ 212 ∷ [])) ≡ 4) × (floor_number (floor_at p13 (addr 8) (254 ∷ 212 ∷ [])) ≡ 4)
unfolding p13 part part_or of_le le_at box_fields box_ok box_at base_fields base_ok page_at kind_of body_of open_at remote_at carry dec within read_len cmp_bytes starts_with newer_than skip_of key_at ref_at front_at val_at slot_at ver_in key_in key_at_slot val_in rec_in rec_at prefix_in halve newer_at key_cmp right_kind ready_at fits_prefix halved elsewhere probed outcome_at page_in head_in lower_at floor_at search_at
P13_index = (refl, refl, refl, refl)
