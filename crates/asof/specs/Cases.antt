-- Rows as of versions, over whole arenas: P7, P7 with a linked history page, P13; worked out by hand from their lists.
-- Assumes nothing.
use Rattle.std.specs.Prelude.{ℕ, ◌≡◌, refl, List, [], ◌∷◌, set, Result, Ok, Err}
use Rattle.spans.specs.Span.{part, part_or}
use Rattle.numbers.specs.Number.{of_le, le_at}
use Rattle.order.specs.declared.Ver.{Ver}
use Rattle.order.specs.Order.{cmp_bytes, starts_with}
use Rattle.order.specs.Version.{ver_of, newer_than}
use Rattle.lengths.specs.Leb128.{carry, dec, within, read_len}
use Rattle.frames.specs.Layout.{addr, box_fields, box_ok, box_at, base_fields, base_ok, page_at, kind_of, body_of, open_at, remote_at}
use Rattle.frames.specs.Cases.{p7}
use Rattle.values.specs.Keys.{ver_in, skip_of, key_at}
use Rattle.values.specs.Vals.{ref_at, front_at, val_at}
use Rattle.records.specs.Records.{slot_at, key_in, key_at_slot, val_in, rec_in, rec_at}
use Rattle.records.specs.Parts.{prefix_in}
use Rattle.pages.specs.Boundaries.{part_in}
use Rattle.pages.specs.Sound.{history_at}
use Rattle.sst.specs.Halve.{halve}
use Rattle.sst.specs.Search.{newer_at, key_cmp, right_kind, ready_at, fits_prefix, halved, elsewhere, probed, outcome_at}
use Rattle.sst.specs.Cases.{p13}
use Rattle.search_head.specs.Head.{head_slot, head_at}
use Rattle.walks.specs.Walk.{fits_in, read_at, enter_at}
use Rattle.walks.specs.Turned.{turned_at}
use Rattle.walks.specs.Aged.{key_old, aged_in, aged_at}
use Rattle.walks.specs.Cases.{linked}
use Rattle.asof.specs.AsOf.{old_as_of, old_enter, older_as_of, as_of_at}
use Rattle.asof.specs.Refused.{as_of_number}
use Rattle.asof.specs.declared.AsOf.{AsOf}
use Rattle.frames.specs.declared.Refusal.{Refusal}

-- an answer with its value's bytes: slot, version, value, keys read; or keys read; or the number
pub data Shown : Type 0 where
  row : ℕ → Ver → List ℕ → ℕ → Shown
  none : ℕ → Shown
  refused : ℕ → Shown

abbrev shown_of : List ℕ → Result AsOf Refusal → Shown
shown_of s (Ok (AsOf.Is i v p n)) = row i v (part_in s p) n
shown_of s (Ok (AsOf.Nothing n)) = none n
shown_of s (Err r) = refused (as_of_number (Err r))

abbrev pub shown : List ℕ → ℕ → List ℕ → Ver → Shown
shown s a probe v = shown_of s (as_of_at s (addr a) probe v)

abbrev xy : Shown
xy = row 0 (ver_of 5 0) (120 ∷ 121 ∷ []) 1

abbrev z3 : Shown
z3 = row 0 (ver_of 3 0) (122 ∷ []) 1

-- "a" has (5,0) "xy" and (3,0) "z": above the head's version, at it, between, at the old one's, below all; another key
pub P7_as_of : (shown p7 104 (97 ∷ []) (ver_of 6 0) ≡ xy) × (shown p7 104 (97 ∷ []) (ver_of 5 0) ≡ xy) × (shown p7 104 (97 ∷ []) (ver_of 4 9) ≡ z3) × (shown p7 104 (97 ∷ []) (ver_of 3 0) ≡ z3) × (shown p7 104 (97 ∷ []) (ver_of 2 9) ≡ none 1) × (shown p7 104 (98 ∷ []) (ver_of 6 0) ≡ none 1)
unfolding p7 part part_or of_le le_at box_fields box_ok box_at base_fields base_ok page_at kind_of body_of open_at remote_at carry dec within read_len cmp_bytes starts_with newer_than skip_of key_at ref_at front_at val_at slot_at ver_in key_in key_at_slot val_in rec_in rec_at prefix_in history_at halve newer_at key_cmp right_kind ready_at fits_prefix halved elsewhere probed outcome_at head_slot head_at fits_in read_at enter_at turned_at key_old aged_in aged_at old_as_of old_enter older_as_of as_of_at
P7_as_of = (refl, refl, refl, refl, refl, refl)

-- (2,0) "z" on a second history page, to which the first links: "across linked pages"
pub linked_as_of : (shown linked 104 (97 ∷ []) (ver_of 3 0) ≡ z3) × (shown linked 104 (97 ∷ []) (ver_of 2 9) ≡ row 0 (ver_of 2 0) (122 ∷ []) 1) × (shown linked 104 (97 ∷ []) (ver_of 2 0) ≡ row 0 (ver_of 2 0) (122 ∷ []) 1) × (shown linked 104 (97 ∷ []) (ver_of 1 9) ≡ none 1)
unfolding linked p7 part part_or of_le le_at box_fields box_ok box_at base_fields base_ok page_at kind_of body_of open_at remote_at carry dec within read_len cmp_bytes starts_with newer_than skip_of key_at ref_at front_at val_at slot_at ver_in key_in key_at_slot val_in rec_in rec_at prefix_in history_at halve newer_at key_cmp right_kind ready_at fits_prefix halved elsewhere probed outcome_at head_slot head_at fits_in read_at enter_at turned_at key_old aged_in aged_at old_as_of old_enter older_as_of as_of_at
linked_as_of = (refl, refl, refl, refl)

-- a history of two where one is left: "links end while count remains" is 4, only where the lookup goes that far
pub short_as_of : (shown (set p7 205 2) 104 (97 ∷ []) (ver_of 3 0) ≡ z3) × (shown (set p7 205 2) 104 (97 ∷ []) (ver_of 2 9) ≡ refused 4)
unfolding p7 part part_or of_le le_at box_fields box_ok box_at base_fields base_ok page_at kind_of body_of open_at remote_at carry dec within read_len cmp_bytes starts_with newer_than skip_of key_at ref_at front_at val_at slot_at ver_in key_in key_at_slot val_in rec_in rec_at prefix_in history_at halve newer_at key_cmp right_kind ready_at fits_prefix halved elsewhere probed outcome_at head_slot head_at fits_in read_at enter_at turned_at key_old aged_in aged_at old_as_of old_enter older_as_of as_of_at
short_as_of = (refl, refl)

-- "4 .. as for a search": a history page; "The lookup as of a version .. follow[s]" search: a probe without the prefix, the same page without keys
pub other_as_of : (shown p7 8 (97 ∷ []) (ver_of 6 0) ≡ refused 4) × (shown p13 8 (254 ∷ 212 ∷ []) (ver_of 9 0) ≡ none 0) × (shown (set p13 44 0) 8 (254 ∷ 212 ∷ []) (ver_of 9 0) ≡ none 0)
unfolding p13 p7 part part_or of_le le_at box_fields box_ok box_at base_fields base_ok page_at kind_of body_of open_at remote_at carry dec within read_len cmp_bytes starts_with newer_than skip_of key_at ref_at front_at val_at slot_at ver_in key_in key_at_slot val_in rec_in rec_at prefix_in history_at halve newer_at key_cmp right_kind ready_at fits_prefix halved elsewhere probed outcome_at head_slot head_at fits_in read_at enter_at turned_at key_old aged_in aged_at old_as_of old_enter older_as_of as_of_at
other_as_of = (refl, refl, refl)
