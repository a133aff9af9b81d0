-- P7, whole: its page says one key with one older version; damaged in three places, it says nothing. A page whose key lies outside says nothing.
-- Assumes nothing.
use Rattle.std.specs.Prelude.{◌≡◌, refl, List, [], ◌∷◌, true, ℕ, set, Some, None, Ok}
use Rattle.spans.specs.Span.{part}
use Rattle.numbers.specs.Number.{of_le, le_at}
use Rattle.order.specs.Order.{cmp_bytes}
use Rattle.order.specs.Bounds.{below_hi, all_in_bounds, bounded}
use Rattle.order.specs.Version.{ver_of, newer_than}
use Rattle.lengths.specs.Leb128.{carry, dec, within, read_len}
use Rattle.frames.specs.Layout.{addr, page_id, box_fields, box_ok, box_at, base_fields, base_ok, page_at, kind_of, body_of, open_at, remote_at, delta_at}
use Rattle.frames.specs.Cases.{p7}
use Rattle.values.specs.Keys.{ver_in, skip_of, key_at}
use Rattle.values.specs.Vals.{ref_at, front_at, val_at}
use Rattle.records.specs.Records.{slot_at, key_in, val_in, rec_in, rec_at}
use Rattle.pages.specs.Sound.{in_order, slots_from, slots_ok, history_at, hist_ok, old_in, old_at, chain_from, entered, head_ok, multi_of, chains_from, chains_ok, hints_ok}
use Rattle.pages.specs.Meaning.{leaf, nothing, says, olds_from, prefix_of, head_of, rows_from, page_says, sound_body, meaning, check_of}
use Rattle.pages.specs.HintsAt.{hints_of, history_hints_at, remote_hints_at, hint_in}
use Rattle.pages.specs.Frames.{frame_ok}
use Rattle.frames.specs.declared.Refusal.{Refusal}
use Rattle.pages.specs.declared.Hints.{Hints}

-- "P5 plus (3,0) "z"": key "a", version (5,0) with "xy", behind it (3,0) with "z"
pub P7 : meaning p7 (addr 104) ≡ says (record { lo = []; hi = []; prefix = []; sibling = page_id 0; rows = leaf ((record { key = 97 ∷ []; ver = ver_of 5 0; value = 120 ∷ 121 ∷ []; olds = (record { ver = ver_of 3 0; value = 122 ∷ [] }) ∷ [] }) ∷ []) })
unfolding p7 part of_le le_at box_fields box_ok box_at base_fields base_ok page_at kind_of body_of open_at remote_at carry dec within read_len cmp_bytes newer_than skip_of key_at ref_at front_at val_at slot_at ver_in key_in val_in rec_in rec_at in_order slots_from slots_ok history_at hist_ok old_in old_at chain_from entered head_ok multi_of chains_from chains_ok hints_ok below_hi all_in_bounds bounded sound_body olds_from prefix_of head_of rows_from page_says meaning
P7 = refl

-- the history page itself is no page; an old version (5,0) is not older; a slot one off leaves a gap; has_multiple_versions 0 is not exact
pub P7_not : (meaning p7 (addr 8) ≡ nothing) × (meaning (set p7 84 5) (addr 104) ≡ nothing) × (meaning (set p7 80 45) (addr 104) ≡ nothing) × (meaning (set p7 174 0) (addr 104) ≡ nothing)
unfolding p7 part of_le le_at box_fields box_ok box_at base_fields base_ok page_at kind_of body_of open_at remote_at carry dec within read_len cmp_bytes newer_than skip_of key_at ref_at front_at val_at slot_at ver_in key_in val_in rec_in rec_at in_order slots_from slots_ok history_at hist_ok old_in old_at chain_from entered head_ok multi_of chains_from chains_ok hints_ok below_hi all_in_bounds bounded sound_body olds_from prefix_of head_of rows_from page_says meaning
P7_not = (refl, refl, refl, refl)

-- both frames are sound by themselves; the hints name the history page and no remote
pub P7_frames : (frame_ok p7 (addr 8) ≡ true) × (frame_ok p7 (addr 104) ≡ true) × (history_hints_at p7 (addr 104) ≡ Ok (Some (record { at = 225; count = 1 }))) × (hint_in p7 (record { at = 225; count = 1 }) 0 ≡ Some (addr 8)) × (remote_hints_at p7 (addr 104) ≡ Ok None)
unfolding p7 part of_le le_at box_fields box_ok box_at base_fields base_ok page_at kind_of body_of open_at remote_at delta_at carry dec within read_len cmp_bytes newer_than skip_of key_at ref_at front_at val_at slot_at ver_in key_in val_in rec_in rec_at in_order slots_from slots_ok history_at hist_ok old_in old_at chain_from entered head_ok multi_of chains_from chains_ok hints_ok prefix_of head_of olds_from rows_from page_says below_hi all_in_bounds bounded sound_body hints_of history_hints_at remote_hints_at hint_in frame_ok
P7_frames = (refl, refl, refl, refl, refl)

-- order 4: lo `c`, no hi, `c` (1,0) `v`, as the Rust builds it at 8 (tests/vectors/cases.txt, "a page from before the order")
unfoldable pub one : List ℕ
one = 0 ∷ 0 ∷ 0 ∷ 0 ∷ 0 ∷ 0 ∷ 0 ∷ 0 ∷ 65 ∷ 0 ∷ 0 ∷ 0 ∷ 1 ∷ 1 ∷ 0 ∷ 0 ∷ 0 ∷ 0 ∷ 0 ∷ 0 ∷ 0 ∷ 0 ∷ 0 ∷ 0 ∷ 0 ∷ 0 ∷ 0 ∷ 0 ∷ 0 ∷ 0 ∷ 0 ∷ 0 ∷ 0 ∷ 0 ∷ 0 ∷ 0 ∷ 0 ∷ 0 ∷ 0 ∷ 0 ∷ 65 ∷ 0 ∷ 0 ∷ 0 ∷ 1 ∷ 0 ∷ 0 ∷ 0 ∷ 0 ∷ 0 ∷ 0 ∷ 0 ∷ 0 ∷ 0 ∷ 0 ∷ 0 ∷ 0 ∷ 0 ∷ 0 ∷ 0 ∷ 0 ∷ 0 ∷ 0 ∷ 0 ∷ 1 ∷ 0 ∷ 0 ∷ 0 ∷ 0 ∷ 0 ∷ 0 ∷ 0 ∷ 0 ∷ 0 ∷ 0 ∷ 0 ∷ 0 ∷ 0 ∷ 0 ∷ 0 ∷ 45 ∷ 0 ∷ 0 ∷ 0 ∷ 99 ∷ 13 ∷ 1 ∷ 0 ∷ 0 ∷ 0 ∷ 0 ∷ 0 ∷ 0 ∷ 0 ∷ 0 ∷ 0 ∷ 0 ∷ 0 ∷ 99 ∷ 0 ∷ 1 ∷ 0 ∷ 0 ∷ 0 ∷ 118 ∷ 0 ∷ 0 ∷ 0 ∷ 0 ∷ 0 ∷ 0 ∷ 0 ∷ []

-- with lo `d` its key lies below lo, and it says nothing more
pub outside : (check_of (meaning one (addr 8)) ≡ Ok tt) × (meaning (set one 84 100) (addr 8) ≡ nothing)
unfolding one part of_le le_at box_fields box_ok box_at base_fields base_ok page_at kind_of body_of open_at remote_at carry dec within read_len cmp_bytes newer_than skip_of key_at ref_at front_at val_at slot_at ver_in key_in val_in rec_in rec_at in_order slots_from slots_ok history_at hist_ok old_in old_at chain_from entered head_ok multi_of chains_from chains_ok hints_ok below_hi all_in_bounds bounded sound_body olds_from prefix_of head_of rows_from page_says meaning
outside = (refl, refl)
