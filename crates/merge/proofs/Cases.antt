-- Merges of pages that the Rust built: what the contract of merge says of each row. The definitions compute.
-- Assumes nothing.
use mathlib.Core.Path.{◌≡◌, refl}
use mathlib.Core.List.{List, [], ◌∷◌, ◌++◌}
use Prim.Native.Nat.{ℕ}
use lib.ListN.{set}
use Rattle.spans.specs.Span.{part, part_or, put}
use Rattle.numbers.specs.Number.{le, of_le, le_at}
use Rattle.lengths.specs.Leb128.{enc, uleb, carry, dec, within, read_len}
use Rattle.order.specs.Order.{cmp_bytes, starts_with}
use Rattle.order.specs.Bounds.{below_hi, all_in_bounds, bounded, meet}
use Rattle.order.specs.Version.{newer_than}
use Rattle.frames.specs.declared.Refusal.TheVariants.{BadLimit, BadArena, BadFrame, MixedKinds, OutOfOrder, WrongPrefix, Outside, NoRoom}
use Rattle.frames.specs.Layout.{addr, box_fields, box_ok, box_at, base_fields, base_ok, page_at, kind_of, body_of, open_at, remote_at}
use Rattle.frames.specs.Stored.{box_bytes, base_front, base_back, base_bytes, page_bytes}
use Rattle.values.specs.Keys.{ver_bytes, leaf_front, leaf_key, skip_of, key_at, ver_in}
use Rattle.values.specs.Vals.{flag_of, hist_bytes, front_bytes, inline_bytes, remote_bytes, size_of, ref_at, front_at, val_at}
use Rattle.records.specs.Records.{slot_at, key_in, val_in, rec_in, rec_at}
use Rattle.pages.specs.Boundaries.{bounds_of, bounds_at, lo_at, hi_at}
use Rattle.pages.specs.Sound.{in_order, slots_from, slots_ok, history_at, hist_ok, old_in, old_at, chain_from, entered, head_ok, multi_of, chains_from, chains_ok, hints_ok}
use Rattle.pages.specs.Meaning.{olds_from, prefix_of, head_of, child_of, rows_from, page_says, meaning, sound_body}
use Rattle.walks.specs.Walk.{up_range, up_way, kind_of_way, forward_at, fits_in, read_at, moved_of, on_of, behind_of, item_of, next_in, next_old, enter_at, head_step, step_at}
use Rattle.build_paging.specs.Cuts.{fits, cuts_from, total}
use Rattle.law_rows.specs.Rows.{old_entry, old_entries, head_entry, head_entries, child_entry, slot_entries, page_entries}
use Rattle.build_sources.specs.Source.{only}
use Rattle.build_sources.specs.Judged.{above, rising_from, rising, prefixed}
use Rattle.build_image.specs.Prefix.{common}
use Rattle.build_image.specs.Sizes.{pad, remote_len, cost, costs_of, remotes_len, key_len, old_run, sums, counted, room_of}
use Rattle.build_image.specs.Image.{remote_addr, val_bytes, remote_frame, remote_frame_of, remote_frames, remote_addrs, old_rec, old_recs, old_slots, hist_head, hist_size, hist_page, page_end, history, history_end, starts, hist_addrs, places_in, places, head_rec, head_recs, head_slots, les, hints, leaf_size, leaf_room, leaf_frame, leaf_image}
use Rattle.build_totals.specs.Totals.{leaf_at}
use Rattle.build_table.specs.Leaf.{leaf_end}
use Rattle.build_image.specs.Call.{larger}
use Rattle.base.proofs.Cases.{at64, zeros}
use Rattle.merge.specs.Merge.{merged, bounds_in}
use Rattle.merge.specs.Answer.{merge_answer, merge_arena}
use Rattle.std.proofs.Common.{Ok, Err}

-- an index page of one key, "c", that leads to page 5, 88 bytes
unfoldable pub child_page : List ℕ
child_page = 54 ∷ 0 ∷ 0 ∷ 0 ∷ 1 ∷ 2 ∷ 0 ∷ 0 ∷ 0 ∷ 0 ∷ 0 ∷ 0 ∷ 0 ∷ 0 ∷ 0 ∷ 0 ∷ 0 ∷ 0 ∷ 0 ∷ 0 ∷ 0 ∷ 0 ∷ 0 ∷ 0 ∷ 0 ∷ 0 ∷ 0 ∷ 0 ∷ 0 ∷ 0 ∷ 0 ∷ 0 ∷ 54 ∷ 0 ∷ 0 ∷ 0 ∷ 1 ∷ 0 ∷ 0 ∷ 0 ∷ 0 ∷ 0 ∷ 0 ∷ 0 ∷ 0 ∷ 0 ∷ 0 ∷ 0 ∷ 0 ∷ 0 ∷ 0 ∷ 0 ∷ 0 ∷ 0 ∷ 0 ∷ 0 ∷ 0 ∷ 0 ∷ 0 ∷ 0 ∷ 0 ∷ 0 ∷ 0 ∷ 0 ∷ 0 ∷ 0 ∷ 0 ∷ 0 ∷ 0 ∷ 1 ∷ 0 ∷ 0 ∷ 44 ∷ 0 ∷ 0 ∷ 0 ∷ 1 ∷ 99 ∷ 5 ∷ 0 ∷ 0 ∷ 0 ∷ 0 ∷ 0 ∷ 0 ∷ 0 ∷ 0 ∷ 0 ∷ []

-- What the Rust built (`oracle run`): "a" in versions 5 and 3 with hi "b", history page at 8, leaf at 104; "b" in version 7 with lo "b", at 240
unfoldable pub pair : List ℕ
pair = 0 ∷ 0 ∷ 0 ∷ 0 ∷ 0 ∷ 0 ∷ 0 ∷ 0 ∷ 62 ∷ 0 ∷ 0 ∷ 0 ∷ 1 ∷ 1 ∷ 1 ∷ 0 ∷ 0 ∷ 0 ∷ 0 ∷ 0 ∷ 0 ∷ 0 ∷ 0 ∷ 0 ∷ 0 ∷ 0 ∷ 0 ∷ 0 ∷ 0 ∷ 0 ∷ 0 ∷ 0 ∷ 0 ∷ 0 ∷ 0 ∷ 0 ∷ 0 ∷ 0 ∷ 0 ∷ 0 ∷ 62 ∷ 0 ∷ 0 ∷ 0 ∷ 1 ∷ 0 ∷ 0 ∷ 0 ∷ 0 ∷ 0 ∷ 0 ∷ 0 ∷ 0 ∷ 0 ∷ 0 ∷ 0 ∷ 0 ∷ 0 ∷ 0 ∷ 0 ∷ 0 ∷ 0 ∷ 0 ∷ 0 ∷ 0 ∷ 0 ∷ 0 ∷ 0 ∷ 0 ∷ 0 ∷ 0 ∷ 0 ∷ 0 ∷ 0 ∷ 0 ∷ 0 ∷ 0 ∷ 0 ∷ 0 ∷ 0 ∷ 44 ∷ 0 ∷ 0 ∷ 0 ∷ 3 ∷ 0 ∷ 0 ∷ 0 ∷ 0 ∷ 0 ∷ 0 ∷ 0 ∷ 0 ∷ 0 ∷ 0 ∷ 0 ∷ 0 ∷ 1 ∷ 0 ∷ 0 ∷ 0 ∷ 122 ∷ 0 ∷ 0 ∷ 102 ∷ 0 ∷ 0 ∷ 0 ∷ 1 ∷ 1 ∷ 0 ∷ 0 ∷ 0 ∷ 0 ∷ 0 ∷ 0 ∷ 0 ∷ 0 ∷ 0 ∷ 0 ∷ 0 ∷ 0 ∷ 0 ∷ 0 ∷ 0 ∷ 0 ∷ 0 ∷ 0 ∷ 0 ∷ 0 ∷ 0 ∷ 0 ∷ 0 ∷ 0 ∷ 0 ∷ 0 ∷ 86 ∷ 0 ∷ 0 ∷ 0 ∷ 1 ∷ 0 ∷ 0 ∷ 0 ∷ 0 ∷ 0 ∷ 0 ∷ 0 ∷ 0 ∷ 0 ∷ 0 ∷ 0 ∷ 0 ∷ 0 ∷ 0 ∷ 0 ∷ 0 ∷ 0 ∷ 0 ∷ 0 ∷ 0 ∷ 0 ∷ 0 ∷ 0 ∷ 1 ∷ 0 ∷ 0 ∷ 0 ∷ 0 ∷ 0 ∷ 0 ∷ 0 ∷ 0 ∷ 0 ∷ 1 ∷ 0 ∷ 45 ∷ 0 ∷ 0 ∷ 0 ∷ 98 ∷ 13 ∷ 5 ∷ 0 ∷ 0 ∷ 0 ∷ 0 ∷ 0 ∷ 0 ∷ 0 ∷ 0 ∷ 0 ∷ 0 ∷ 0 ∷ 97 ∷ 1 ∷ 8 ∷ 0 ∷ 0 ∷ 0 ∷ 0 ∷ 0 ∷ 0 ∷ 0 ∷ 0 ∷ 0 ∷ 1 ∷ 0 ∷ 0 ∷ 0 ∷ 2 ∷ 0 ∷ 0 ∷ 0 ∷ 120 ∷ 121 ∷ 0 ∷ 0 ∷ 0 ∷ 0 ∷ 0 ∷ 0 ∷ 1 ∷ 0 ∷ 0 ∷ 0 ∷ 8 ∷ 0 ∷ 0 ∷ 0 ∷ 0 ∷ 0 ∷ 0 ∷ 0 ∷ 0 ∷ 0 ∷ 0 ∷ 0 ∷ 0 ∷ 0 ∷ 65 ∷ 0 ∷ 0 ∷ 0 ∷ 1 ∷ 1 ∷ 0 ∷ 0 ∷ 0 ∷ 0 ∷ 0 ∷ 0 ∷ 0 ∷ 0 ∷ 0 ∷ 0 ∷ 0 ∷ 0 ∷ 0 ∷ 0 ∷ 0 ∷ 0 ∷ 0 ∷ 0 ∷ 0 ∷ 0 ∷ 0 ∷ 0 ∷ 0 ∷ 0 ∷ 0 ∷ 0 ∷ 65 ∷ 0 ∷ 0 ∷ 0 ∷ 1 ∷ 0 ∷ 0 ∷ 0 ∷ 0 ∷ 0 ∷ 0 ∷ 0 ∷ 0 ∷ 0 ∷ 0 ∷ 0 ∷ 0 ∷ 0 ∷ 0 ∷ 0 ∷ 0 ∷ 0 ∷ 0 ∷ 0 ∷ 1 ∷ 0 ∷ 0 ∷ 0 ∷ 0 ∷ 0 ∷ 0 ∷ 0 ∷ 0 ∷ 0 ∷ 0 ∷ 0 ∷ 0 ∷ 0 ∷ 0 ∷ 0 ∷ 45 ∷ 0 ∷ 0 ∷ 0 ∷ 98 ∷ 13 ∷ 7 ∷ 0 ∷ 0 ∷ 0 ∷ 0 ∷ 0 ∷ 0 ∷ 0 ∷ 0 ∷ 0 ∷ 0 ∷ 0 ∷ 98 ∷ 0 ∷ 1 ∷ 0 ∷ 0 ∷ 0 ∷ 122 ∷ 0 ∷ 0 ∷ 0 ∷ 0 ∷ 0 ∷ 0 ∷ 0 ∷ []

-- Order 4's pages (tests/vectors/cases.txt, "order 4: A d..h"): A `d`..`h` with `e` at 8, B `h`..`p` with `i` at 112, C `p`.. with `q` at 216, E `h`..`p`
-- without keys at 320, N without boundaries and keys at 400; next 472
unfoldable pub five : List ℕ
five = 0 ∷ 0 ∷ 0 ∷ 0 ∷ 0 ∷ 0 ∷ 0 ∷ 0 ∷ 66 ∷ 0 ∷ 0 ∷ 0 ∷ 1 ∷ 1 ∷ 0 ∷ 0 ∷ 0 ∷ 0 ∷ 0 ∷ 0 ∷ 0 ∷ 0 ∷ 0 ∷ 0 ∷ 0 ∷ 0 ∷ 0 ∷ 0 ∷ 0 ∷ 0 ∷ 0 ∷ 0 ∷ 0 ∷ 0 ∷ 0 ∷ 0 ∷ 0 ∷ 0 ∷ 0 ∷ 0 ∷ 66 ∷ 0 ∷ 0 ∷ 0 ∷ 1 ∷ 0 ∷ 0 ∷ 0 ∷ 0 ∷ 0 ∷ 0 ∷ 0 ∷ 0 ∷ 0 ∷ 0 ∷ 0 ∷ 0 ∷ 0 ∷ 0 ∷ 0 ∷ 0 ∷ 0 ∷ 0 ∷ 0 ∷ 1 ∷ 0 ∷ 0 ∷ 0 ∷ 1 ∷ 0 ∷ 0 ∷ 0 ∷ 0 ∷ 0 ∷ 0 ∷ 0 ∷ 0 ∷ 0 ∷ 0 ∷ 0 ∷ 46 ∷ 0 ∷ 0 ∷ 0 ∷ 100 ∷ 104 ∷ 13 ∷ 1 ∷ 0 ∷ 0 ∷ 0 ∷ 0 ∷ 0 ∷ 0 ∷ 0 ∷ 0 ∷ 0 ∷ 0 ∷ 0 ∷ 101 ∷ 0 ∷ 1 ∷ 0 ∷ 0 ∷ 0 ∷ 118 ∷ 0 ∷ 0 ∷ 0 ∷ 0 ∷ 0 ∷ 0 ∷ 66 ∷ 0 ∷ 0 ∷ 0 ∷ 1 ∷ 1 ∷ 0 ∷ 0 ∷ 0 ∷ 0 ∷ 0 ∷ 0 ∷ 0 ∷ 0 ∷ 0 ∷ 0 ∷ 0 ∷ 0 ∷ 0 ∷ 0 ∷ 0 ∷ 0 ∷ 0 ∷ 0 ∷ 0 ∷ 0 ∷ 0 ∷ 0 ∷ 0 ∷ 0 ∷ 0 ∷ 0 ∷ 66 ∷ 0 ∷ 0 ∷ 0 ∷ 1 ∷ 0 ∷ 0 ∷ 0 ∷ 0 ∷ 0 ∷ 0 ∷ 0 ∷ 0 ∷ 0 ∷ 0 ∷ 0 ∷ 0 ∷ 0 ∷ 0 ∷ 0 ∷ 0 ∷ 0 ∷ 0 ∷ 0 ∷ 1 ∷ 0 ∷ 0 ∷ 0 ∷ 1 ∷ 0 ∷ 0 ∷ 0 ∷ 0 ∷ 0 ∷ 0 ∷ 0 ∷ 0 ∷ 0 ∷ 0 ∷ 0 ∷ 46 ∷ 0 ∷ 0 ∷ 0 ∷ 104 ∷ 112 ∷ 13 ∷ 1 ∷ 0 ∷ 0 ∷ 0 ∷ 0 ∷ 0 ∷ 0 ∷ 0 ∷ 0 ∷ 0 ∷ 0 ∷ 0 ∷ 105 ∷ 0 ∷ 1 ∷ 0 ∷ 0 ∷ 0 ∷ 118 ∷ 0 ∷ 0 ∷ 0 ∷ 0 ∷ 0 ∷ 0 ∷ 65 ∷ 0 ∷ 0 ∷ 0 ∷ 1 ∷ 1 ∷ 0 ∷ 0 ∷ 0 ∷ 0 ∷ 0 ∷ 0 ∷ 0 ∷ 0 ∷ 0 ∷ 0 ∷ 0 ∷ 0 ∷ 0 ∷ 0 ∷ 0 ∷ 0 ∷ 0 ∷ 0 ∷ 0 ∷ 0 ∷ 0 ∷ 0 ∷ 0 ∷ 0 ∷ 0 ∷ 0 ∷ 65 ∷ 0 ∷ 0 ∷ 0 ∷ 1 ∷ 0 ∷ 0 ∷ 0 ∷ 0 ∷ 0 ∷ 0 ∷ 0 ∷ 0 ∷ 0 ∷ 0 ∷ 0 ∷ 0 ∷ 0 ∷ 0 ∷ 0 ∷ 0 ∷ 0 ∷ 0 ∷ 0 ∷ 1 ∷ 0 ∷ 0 ∷ 0 ∷ 0 ∷ 0 ∷ 0 ∷ 0 ∷ 0 ∷ 0 ∷ 0 ∷ 0 ∷ 0 ∷ 0 ∷ 0 ∷ 0 ∷ 45 ∷ 0 ∷ 0 ∷ 0 ∷ 112 ∷ 13 ∷ 1 ∷ 0 ∷ 0 ∷ 0 ∷ 0 ∷ 0 ∷ 0 ∷ 0 ∷ 0 ∷ 0 ∷ 0 ∷ 0 ∷ 113 ∷ 0 ∷ 1 ∷ 0 ∷ 0 ∷ 0 ∷ 118 ∷ 0 ∷ 0 ∷ 0 ∷ 0 ∷ 0 ∷ 0 ∷ 0 ∷ 42 ∷ 0 ∷ 0 ∷ 0 ∷ 1 ∷ 1 ∷ 0 ∷ 0 ∷ 0 ∷ 0 ∷ 0 ∷ 0 ∷ 0 ∷ 0 ∷ 0 ∷ 0 ∷ 0 ∷ 0 ∷ 0 ∷ 0 ∷ 0 ∷ 0 ∷ 0 ∷ 0 ∷ 0 ∷ 0 ∷ 0 ∷ 0 ∷ 0 ∷ 0 ∷ 0 ∷ 0 ∷ 42 ∷ 0 ∷ 0 ∷ 0 ∷ 0 ∷ 0 ∷ 0 ∷ 0 ∷ 0 ∷ 0 ∷ 0 ∷ 0 ∷ 0 ∷ 0 ∷ 0 ∷ 0 ∷ 0 ∷ 0 ∷ 0 ∷ 0 ∷ 0 ∷ 0 ∷ 0 ∷ 0 ∷ 1 ∷ 0 ∷ 0 ∷ 0 ∷ 1 ∷ 0 ∷ 0 ∷ 0 ∷ 0 ∷ 0 ∷ 0 ∷ 0 ∷ 0 ∷ 0 ∷ 0 ∷ 0 ∷ 104 ∷ 112 ∷ 0 ∷ 0 ∷ 0 ∷ 0 ∷ 0 ∷ 0 ∷ 40 ∷ 0 ∷ 0 ∷ 0 ∷ 1 ∷ 1 ∷ 0 ∷ 0 ∷ 0 ∷ 0 ∷ 0 ∷ 0 ∷ 0 ∷ 0 ∷ 0 ∷ 0 ∷ 0 ∷ 0 ∷ 0 ∷ 0 ∷ 0 ∷ 0 ∷ 0 ∷ 0 ∷ 0 ∷ 0 ∷ 0 ∷ 0 ∷ 0 ∷ 0 ∷ 0 ∷ 0 ∷ 40 ∷ 0 ∷ 0 ∷ 0 ∷ 0 ∷ 0 ∷ 0 ∷ 0 ∷ 0 ∷ 0 ∷ 0 ∷ 0 ∷ 0 ∷ 0 ∷ 0 ∷ 0 ∷ 0 ∷ 0 ∷ 0 ∷ 0 ∷ 0 ∷ 0 ∷ 0 ∷ 0 ∷ 0 ∷ 0 ∷ 0 ∷ 0 ∷ 0 ∷ 0 ∷ 0 ∷ 0 ∷ 0 ∷ 0 ∷ 0 ∷ 0 ∷ 0 ∷ 0 ∷ 0 ∷ 0 ∷ []

-- The two merged: history page at 344, leaf at 440, new next 600. An arena of 600 suffices, 599 is 9. A budget of 255 is 1, a next free
-- address of 348 is 2. A history page is 4, so is a page that ends above the next free address, and one whose lo is above its key; an
-- index page is 5
pub rows : (merge_answer (pair ++ zeros 256) 344 (at64 256) (addr 104) (addr 240) ≡ Ok (addr 440, 600))
    × (merge_answer (pair ++ zeros 255) 344 (at64 256) (addr 104) (addr 240) ≡ Err NoRoom)
    × (merge_answer (pair ++ zeros 256) 344 (at64 255) (addr 104) (addr 240) ≡ Err BadLimit)
    × (merge_answer (pair ++ zeros 256) 348 (at64 256) (addr 104) (addr 240) ≡ Err BadArena)
    × (merge_answer (pair ++ zeros 256) 344 (at64 256) (addr 8) (addr 240) ≡ Err BadFrame)
    × (merge_answer (pair ++ zeros 256) 336 (at64 256) (addr 104) (addr 240) ≡ Err BadFrame)
    × (merge_answer (set (pair ++ zeros 256) 316 99) 344 (at64 256) (addr 104) (addr 240) ≡ Err BadFrame)
    × (merge_answer (pair ++ (child_page ++ zeros 256)) 432 (at64 256) (addr 104) (addr 344) ≡ Err MixedKinds)
unfolding child_page pair five larger common only above rising_from rising prefixed below_hi all_in_bounds bounded meet starts_with cmp_bytes newer_than part part_or put of_le le_at leaf_at leaf_end le enc uleb box_bytes base_front base_back base_bytes page_bytes ver_bytes leaf_front leaf_key flag_of hist_bytes front_bytes inline_bytes remote_bytes size_of fits cuts_from total pad remote_len cost costs_of remotes_len key_len old_run sums counted room_of remote_addr val_bytes remote_frame remote_frame_of remote_frames remote_addrs old_rec old_recs old_slots hist_head hist_size hist_page page_end history history_end starts hist_addrs places_in places head_rec head_recs head_slots les hints leaf_size leaf_room leaf_frame leaf_image box_fields box_ok box_at base_fields base_ok page_at kind_of body_of open_at remote_at carry dec within read_len skip_of key_at ref_at front_at val_at slot_at ver_in key_in val_in rec_in rec_at in_order slots_from slots_ok history_at hist_ok old_in old_at chain_from entered head_ok multi_of chains_from chains_ok hints_ok sound_body olds_from prefix_of head_of rows_from page_says meaning up_range up_way kind_of_way forward_at fits_in read_at moved_of on_of behind_of item_of next_in next_old enter_at head_step step_at old_entry old_entries head_entry head_entries child_entry slot_entries page_entries bounds_of bounds_at lo_at hi_at merged bounds_in merge_answer merge_arena child_of
rows = (refl, refl, refl, refl, refl, refl, refl, refl)

-- Order 4's worked answers: A B, A E and B C meet; A C do not; B A is out of order; E A lacks the prefix that both new boundaries, `h`, have; C and N
-- have no hi; E does not end where it begins; A A is out of order
pub neighbours : (merge_answer (five ++ zeros 128) 472 (at64 256) (addr 8) (addr 112) ≡ Ok (addr 472, 600))
    × (merge_answer (five ++ zeros 128) 472 (at64 256) (addr 8) (addr 320) ≡ Ok (addr 472, 576))
    × (merge_answer (five ++ zeros 128) 472 (at64 256) (addr 112) (addr 216) ≡ Ok (addr 472, 600))
    × (merge_answer (five ++ zeros 128) 472 (at64 256) (addr 8) (addr 216) ≡ Err Outside)
    × (merge_answer (five ++ zeros 128) 472 (at64 256) (addr 112) (addr 8) ≡ Err OutOfOrder)
    × (merge_answer (five ++ zeros 128) 472 (at64 256) (addr 320) (addr 8) ≡ Err WrongPrefix)
    × (merge_answer (five ++ zeros 128) 472 (at64 256) (addr 216) (addr 400) ≡ Err Outside)
    × (merge_answer (five ++ zeros 128) 472 (at64 256) (addr 400) (addr 400) ≡ Err Outside)
    × (merge_answer (five ++ zeros 128) 472 (at64 256) (addr 320) (addr 320) ≡ Err Outside)
    × (merge_answer (five ++ zeros 128) 472 (at64 256) (addr 8) (addr 8) ≡ Err OutOfOrder)
unfolding child_page pair five larger common only above rising_from rising prefixed below_hi all_in_bounds bounded meet starts_with cmp_bytes newer_than part part_or put of_le le_at leaf_at leaf_end le enc uleb box_bytes base_front base_back base_bytes page_bytes ver_bytes leaf_front leaf_key flag_of hist_bytes front_bytes inline_bytes remote_bytes size_of fits cuts_from total pad remote_len cost costs_of remotes_len key_len old_run sums counted room_of remote_addr val_bytes remote_frame remote_frame_of remote_frames remote_addrs old_rec old_recs old_slots hist_head hist_size hist_page page_end history history_end starts hist_addrs places_in places head_rec head_recs head_slots les hints leaf_size leaf_room leaf_frame leaf_image box_fields box_ok box_at base_fields base_ok page_at kind_of body_of open_at remote_at carry dec within read_len skip_of key_at ref_at front_at val_at slot_at ver_in key_in val_in rec_in rec_at in_order slots_from slots_ok history_at hist_ok old_in old_at chain_from entered head_ok multi_of chains_from chains_ok hints_ok sound_body olds_from prefix_of head_of rows_from page_says meaning up_range up_way kind_of_way forward_at fits_in read_at moved_of on_of behind_of item_of next_in next_old enter_at head_step step_at old_entry old_entries head_entry head_entries child_entry slot_entries page_entries bounds_of bounds_at lo_at hi_at merged bounds_in merge_answer merge_arena child_of
neighbours = (refl, refl, refl, refl, refl, refl, refl, refl, refl, refl)
