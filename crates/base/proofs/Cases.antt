-- P5, P6, P7, P8 and P11 of document 01 as answers of new_leaf: what its contract says of each row.
-- Assumes nothing.
use mathlib.Core.Path.{◌≡◌, refl}
use mathlib.Core.List.{List, [], ◌∷◌}
use Prim.Native.Nat.{ℕ}
use lib.ListN.{replicate}
use Rattle.spans.specs.Span.{part, part_or, put}
use Rattle.numbers.specs.Number.{le, of_le, of_be, be_at}
use Rattle.lengths.specs.Leb128.{enc, uleb}
use Rattle.order.specs.Order.{cmp_bytes, starts_with}
use Rattle.order.specs.Bounds.{below_hi, all_in_bounds, bounded}
use Rattle.order.specs.Version.{newer_than}
use Rattle.frames.specs.declared.Refusal.TheVariants.{OutOfOrder, NoRoom}
use Rattle.frames.specs.Layout.{addr}
use Rattle.frames.specs.Stored.{box_bytes, base_front, base_back, base_bytes, page_bytes}
use Rattle.frames.specs.Cases.{p7}
use Rattle.values.specs.Keys.{ver_bytes, leaf_front, leaf_key}
use Rattle.values.specs.Vals.{flag_of, hist_bytes, front_bytes, inline_bytes, remote_bytes, size_of}
use Rattle.build_paging.specs.Cuts.{fits, cuts_from, total}
use Rattle.build_sources.specs.Keys.{key_bytes}
use Rattle.build_sources.specs.Lists.{begun_of, same_key, record_at, index_at, spot_at}
use Rattle.build_sources.specs.Source.{after, list_f, well_f, step_of, list_next, next_of, left_of, entry_of, entries, well_formed, only}
use Rattle.build_sources.specs.Judged.{above, rising_from, rising, prefixed}
use Rattle.build_sources.proofs.Cases.{p7_list, p11_list}
use Rattle.build_image.specs.declared.Call.{Call}
use Rattle.build_image.specs.Prefix.{common}
use Rattle.build_image.specs.Sizes.{pad, remote_len, cost, costs_of, remotes_len, key_len, old_run, sums, counted, room_of}
use Rattle.build_image.specs.Image.{remote_addr, val_bytes, remote_frame, remote_frame_of, remote_frames, remote_addrs, old_rec, old_recs, old_slots, hist_head, hist_size, hist_page, page_end, history, history_end, starts, hist_addrs, places_in, places, head_rec, head_recs, head_slots, les, hints, leaf_size, leaf_room, leaf_frame, leaf_image, Borders}
use Rattle.build_totals.specs.Totals.{leaf_at}
use Rattle.build_table.specs.Leaf.{leaf_end}
use Rattle.build_image.specs.Call.{larger, call_of, default_budget}
use Rattle.base.specs.Calls.{bounds_from, new_answer, new_arena}
use Rattle.std.proofs.Common.{Ok, Err}

-- "a", version (5,0), "xy"
unfoldable pub p5_list : List ℕ
p5_list = 1 ∷ 0 ∷ 0 ∷ 0 ∷ 21 ∷ 0 ∷ 1 ∷ 97 ∷ 0 ∷ 0 ∷ 0 ∷ 0 ∷ 0 ∷ 0 ∷ 0 ∷ 5 ∷ 0 ∷ 0 ∷ 0 ∷ 0 ∷ 0 ∷ 0 ∷ 0 ∷ 2 ∷ 120 ∷ 121 ∷ []

-- "a" with three old values of 52 bytes, and of 51
unfoldable pub list52 : List ℕ
list52 = 1 ∷ 0 ∷ 0 ∷ 0 ∷ 234 ∷ 0 ∷ 1 ∷ 97 ∷ 0 ∷ 0 ∷ 0 ∷ 0 ∷ 0 ∷ 0 ∷ 0 ∷ 9 ∷ 0 ∷ 0 ∷ 0 ∷ 0 ∷ 0 ∷ 0 ∷ 0 ∷ 2 ∷ 120 ∷ 121 ∷ 0 ∷ 1 ∷ 97 ∷ 0 ∷ 0 ∷ 0 ∷ 0 ∷ 0 ∷ 0 ∷ 0 ∷ 8 ∷ 0 ∷ 0 ∷ 0 ∷ 0 ∷ 0 ∷ 0 ∷ 0 ∷ 52 ∷ 7 ∷ 7 ∷ 7 ∷ 7 ∷ 7 ∷ 7 ∷ 7 ∷ 7 ∷ 7 ∷ 7 ∷ 7 ∷ 7 ∷ 7 ∷ 7 ∷ 7 ∷ 7 ∷ 7 ∷ 7 ∷ 7 ∷ 7 ∷ 7 ∷ 7 ∷ 7 ∷ 7 ∷ 7 ∷ 7 ∷ 7 ∷ 7 ∷ 7 ∷ 7 ∷ 7 ∷ 7 ∷ 7 ∷ 7 ∷ 7 ∷ 7 ∷ 7 ∷ 7 ∷ 7 ∷ 7 ∷ 7 ∷ 7 ∷ 7 ∷ 7 ∷ 7 ∷ 7 ∷ 7 ∷ 7 ∷ 7 ∷ 7 ∷ 7 ∷ 7 ∷ 0 ∷ 1 ∷ 97 ∷ 0 ∷ 0 ∷ 0 ∷ 0 ∷ 0 ∷ 0 ∷ 0 ∷ 7 ∷ 0 ∷ 0 ∷ 0 ∷ 0 ∷ 0 ∷ 0 ∷ 0 ∷ 52 ∷ 7 ∷ 7 ∷ 7 ∷ 7 ∷ 7 ∷ 7 ∷ 7 ∷ 7 ∷ 7 ∷ 7 ∷ 7 ∷ 7 ∷ 7 ∷ 7 ∷ 7 ∷ 7 ∷ 7 ∷ 7 ∷ 7 ∷ 7 ∷ 7 ∷ 7 ∷ 7 ∷ 7 ∷ 7 ∷ 7 ∷ 7 ∷ 7 ∷ 7 ∷ 7 ∷ 7 ∷ 7 ∷ 7 ∷ 7 ∷ 7 ∷ 7 ∷ 7 ∷ 7 ∷ 7 ∷ 7 ∷ 7 ∷ 7 ∷ 7 ∷ 7 ∷ 7 ∷ 7 ∷ 7 ∷ 7 ∷ 7 ∷ 7 ∷ 7 ∷ 7 ∷ 0 ∷ 1 ∷ 97 ∷ 0 ∷ 0 ∷ 0 ∷ 0 ∷ 0 ∷ 0 ∷ 0 ∷ 6 ∷ 0 ∷ 0 ∷ 0 ∷ 0 ∷ 0 ∷ 0 ∷ 0 ∷ 52 ∷ 7 ∷ 7 ∷ 7 ∷ 7 ∷ 7 ∷ 7 ∷ 7 ∷ 7 ∷ 7 ∷ 7 ∷ 7 ∷ 7 ∷ 7 ∷ 7 ∷ 7 ∷ 7 ∷ 7 ∷ 7 ∷ 7 ∷ 7 ∷ 7 ∷ 7 ∷ 7 ∷ 7 ∷ 7 ∷ 7 ∷ 7 ∷ 7 ∷ 7 ∷ 7 ∷ 7 ∷ 7 ∷ 7 ∷ 7 ∷ 7 ∷ 7 ∷ 7 ∷ 7 ∷ 7 ∷ 7 ∷ 7 ∷ 7 ∷ 7 ∷ 7 ∷ 7 ∷ 7 ∷ 7 ∷ 7 ∷ 7 ∷ 7 ∷ 7 ∷ 7 ∷ []

unfoldable pub list51 : List ℕ
list51 = 1 ∷ 0 ∷ 0 ∷ 0 ∷ 231 ∷ 0 ∷ 1 ∷ 97 ∷ 0 ∷ 0 ∷ 0 ∷ 0 ∷ 0 ∷ 0 ∷ 0 ∷ 9 ∷ 0 ∷ 0 ∷ 0 ∷ 0 ∷ 0 ∷ 0 ∷ 0 ∷ 2 ∷ 120 ∷ 121 ∷ 0 ∷ 1 ∷ 97 ∷ 0 ∷ 0 ∷ 0 ∷ 0 ∷ 0 ∷ 0 ∷ 0 ∷ 8 ∷ 0 ∷ 0 ∷ 0 ∷ 0 ∷ 0 ∷ 0 ∷ 0 ∷ 51 ∷ 7 ∷ 7 ∷ 7 ∷ 7 ∷ 7 ∷ 7 ∷ 7 ∷ 7 ∷ 7 ∷ 7 ∷ 7 ∷ 7 ∷ 7 ∷ 7 ∷ 7 ∷ 7 ∷ 7 ∷ 7 ∷ 7 ∷ 7 ∷ 7 ∷ 7 ∷ 7 ∷ 7 ∷ 7 ∷ 7 ∷ 7 ∷ 7 ∷ 7 ∷ 7 ∷ 7 ∷ 7 ∷ 7 ∷ 7 ∷ 7 ∷ 7 ∷ 7 ∷ 7 ∷ 7 ∷ 7 ∷ 7 ∷ 7 ∷ 7 ∷ 7 ∷ 7 ∷ 7 ∷ 7 ∷ 7 ∷ 7 ∷ 7 ∷ 7 ∷ 0 ∷ 1 ∷ 97 ∷ 0 ∷ 0 ∷ 0 ∷ 0 ∷ 0 ∷ 0 ∷ 0 ∷ 7 ∷ 0 ∷ 0 ∷ 0 ∷ 0 ∷ 0 ∷ 0 ∷ 0 ∷ 51 ∷ 7 ∷ 7 ∷ 7 ∷ 7 ∷ 7 ∷ 7 ∷ 7 ∷ 7 ∷ 7 ∷ 7 ∷ 7 ∷ 7 ∷ 7 ∷ 7 ∷ 7 ∷ 7 ∷ 7 ∷ 7 ∷ 7 ∷ 7 ∷ 7 ∷ 7 ∷ 7 ∷ 7 ∷ 7 ∷ 7 ∷ 7 ∷ 7 ∷ 7 ∷ 7 ∷ 7 ∷ 7 ∷ 7 ∷ 7 ∷ 7 ∷ 7 ∷ 7 ∷ 7 ∷ 7 ∷ 7 ∷ 7 ∷ 7 ∷ 7 ∷ 7 ∷ 7 ∷ 7 ∷ 7 ∷ 7 ∷ 7 ∷ 7 ∷ 7 ∷ 0 ∷ 1 ∷ 97 ∷ 0 ∷ 0 ∷ 0 ∷ 0 ∷ 0 ∷ 0 ∷ 0 ∷ 6 ∷ 0 ∷ 0 ∷ 0 ∷ 0 ∷ 0 ∷ 0 ∷ 0 ∷ 51 ∷ 7 ∷ 7 ∷ 7 ∷ 7 ∷ 7 ∷ 7 ∷ 7 ∷ 7 ∷ 7 ∷ 7 ∷ 7 ∷ 7 ∷ 7 ∷ 7 ∷ 7 ∷ 7 ∷ 7 ∷ 7 ∷ 7 ∷ 7 ∷ 7 ∷ 7 ∷ 7 ∷ 7 ∷ 7 ∷ 7 ∷ 7 ∷ 7 ∷ 7 ∷ 7 ∷ 7 ∷ 7 ∷ 7 ∷ 7 ∷ 7 ∷ 7 ∷ 7 ∷ 7 ∷ 7 ∷ 7 ∷ 7 ∷ 7 ∷ 7 ∷ 7 ∷ 7 ∷ 7 ∷ 7 ∷ 7 ∷ 7 ∷ 7 ∷ 7 ∷ []

-- limit 64
abbrev pub at64 : ℕ → Call
at64 budget = call_of 64 budget 0 0 0 0

abbrev pub zeros : ℕ → List ℕ
zeros n = replicate n 0

abbrev pub open_ended : Borders
open_ended = bounds_from [] [] 0

-- P5: no boundaries, limit 64, next 8: new next 112. P6: an arena of 112 suffices, 111 is 9. P7: history page at 8, leaf at 104, new next
-- 240, the whole arena. P8, budget 256: of 52 bytes two a page, so a second page stands at 232 and the leaf at 384; of 51 three, exactly
-- 256 with the header, so the leaf stands at 296. P11: one key and version twice is 6
pub rows : (new_answer (zeros 112) 8 p5_list (at64 default_budget) open_ended ≡ Ok (addr 8, 112))
    × (new_answer (zeros 111) 8 p5_list (at64 default_budget) open_ended ≡ Err NoRoom)
    × (new_answer (zeros 240) 8 p7_list (at64 256) open_ended ≡ Ok (addr 104, 240))
    × (new_arena (zeros 240) 8 p7_list (at64 256) open_ended ≡ p7)
    × (new_answer (zeros 600) 8 list52 (at64 256) open_ended ≡ Ok (addr 384, 576))
    × (new_answer (zeros 600) 8 list51 (at64 256) open_ended ≡ Ok (addr 296, 480))
    × (new_answer (zeros 600) 8 p11_list (at64 256) open_ended ≡ Err OutOfOrder)
unfolding p5_list p7_list p11_list list52 list51 p7 new_answer new_arena larger common begun_of same_key record_at index_at spot_at after list_f well_f step_of list_next next_of left_of entry_of entries well_formed only key_bytes above rising_from rising prefixed below_hi all_in_bounds bounded starts_with cmp_bytes newer_than part part_or put of_le of_be be_at leaf_at leaf_end le enc uleb box_bytes base_front base_back base_bytes page_bytes ver_bytes leaf_front leaf_key flag_of hist_bytes front_bytes inline_bytes remote_bytes size_of fits cuts_from total pad remote_len cost costs_of remotes_len key_len old_run sums counted room_of remote_addr val_bytes remote_frame remote_frame_of remote_frames remote_addrs old_rec old_recs old_slots hist_head hist_size hist_page page_end history history_end starts hist_addrs places_in places head_rec head_recs head_slots les hints leaf_size leaf_room leaf_frame leaf_image
rows = (refl, refl, refl, refl, refl, refl, refl)
