-- Order 4's worked answers of new_leaf and new_intl: what their contracts say of each row of its table.
-- Assumes nothing.
use mathlib.Core.Path.{◌≡◌, refl}
use mathlib.Core.List.{List, [], ◌∷◌, ◌++◌}
use Prim.Native.Nat.{ℕ}
use lib.ListN.{length, replicate}
use Rattle.spans.specs.Span.{part, part_or}
use Rattle.numbers.specs.Number.{le, of_le, of_be, be_at}
use Rattle.lengths.specs.Leb128.{enc, uleb}
use Rattle.order.specs.Order.{cmp_bytes, starts_with}
use Rattle.order.specs.Bounds.{below_hi, all_in_bounds, bounded}
use Rattle.order.specs.Version.{newer_than}
use Rattle.frames.specs.declared.Refusal.TheVariants.{OutOfOrder, WrongPrefix, Outside, NoRoom}
use Rattle.frames.specs.Layout.{addr}
use Rattle.frames.specs.Stored.{box_bytes, base_front, base_back, base_bytes, page_bytes}
use Rattle.values.specs.Keys.{ver_bytes, leaf_front, leaf_key, index_key, index_key_size}
use Rattle.values.specs.Vals.{flag_of, hist_bytes, front_bytes, inline_bytes, remote_bytes, size_of}
use Rattle.build_paging.specs.Cuts.{fits, cuts_from, total}
use Rattle.build_sources.specs.Keys.{key_bytes}
use Rattle.build_sources.specs.Lists.{begun_of, same_key, record_at, index_at, spot_at}
use Rattle.build_sources.specs.Source.{after, list_f, well_f, step_of, list_next, next_of, left_of, entry_of, entries, well_formed, only}
use Rattle.build_sources.specs.Judged.{above, rising_from, rising, prefixed}
use Rattle.build_image.specs.Prefix.{common}
use Rattle.build_image.specs.Call.{larger, call_of}
use Rattle.build_image.specs.Sizes.{pad, remote_len, cost, costs_of, remotes_len, key_len, old_run, sums, counted, room_of}
use Rattle.build_image.specs.Image.{remote_addr, val_bytes, remote_frame, remote_frame_of, remote_frames, remote_addrs, old_rec, old_recs, old_slots, hist_head, hist_size, hist_page, page_end, history, history_end, starts, hist_addrs, places_in, places, head_rec, head_recs, head_slots, les, hints, leaf_size, leaf_room, leaf_frame, leaf_image, index_recs, index_key_len, index_slots, index_sums, index_size, index_image}
use Rattle.build_totals.specs.Totals.{leaf_at}
use Rattle.build_table.specs.Leaf.{leaf_end}
use Rattle.build_table.specs.Index.{index_end}
use Rattle.base.specs.Calls.{bounds_from, new_answer, new_index_answer}
use Rattle.std.proofs.Common.{Result, Ok, Err}
use Rattle.frames.specs.declared.Addr.{Addr}
use Rattle.frames.specs.declared.Refusal.{Refusal}

-- a list's five bytes and its entries, fewer than 256 bytes
abbrev list_of : List ℕ → List ℕ
list_of es = 1 ∷ 0 ∷ 0 ∷ 0 ∷ length es ∷ es

-- "Each key with (1,0) v, or page id 1"
abbrev record_of : List ℕ → List ℕ
record_of key = 0 ∷ length key ∷ (key ++ (0 ∷ 0 ∷ 0 ∷ 0 ∷ 0 ∷ 0 ∷ 0 ∷ 1 ∷ 0 ∷ 0 ∷ 0 ∷ 0 ∷ 0 ∷ 0 ∷ 0 ∷ 1 ∷ 118 ∷ []))

abbrev child_of_lem : List ℕ → List ℕ
child_of_lem key = 0 ∷ length key ∷ (key ++ (0 ∷ 0 ∷ 0 ∷ 0 ∷ 0 ∷ 0 ∷ 0 ∷ 1 ∷ []))

-- a build at 8 in an arena of so many bytes, limit 64, budget 256
abbrev leaf_in : ℕ → List ℕ → List ℕ → List ℕ → Result (Addr × ℕ) Refusal
leaf_in n lo hi es = new_answer (replicate n 0) 8 (list_of es) (call_of 64 256 0 0 0 0) (bounds_from lo hi 0)

abbrev index_in : ℕ → List ℕ → List ℕ → List ℕ → Result (Addr × ℕ) Refusal
index_in n lo hi es = new_index_answer (replicate n 0) 8 (list_of es) (call_of 64 256 0 0 0 0) (bounds_from lo hi 0)

-- `d`, `h`: `d` is inside, `gzz` too, `h` and `czz` are not; without hi `czz` is not; lo not below hi; `da`, `dc`: `d` and `dc` are not, `x` is 7; `x`
-- then `e` is 6; empty and `h`: the empty key is; `h` in an arena of 8 bytes is 10, `e` is 9
pub leaves : (leaf_in 112 (100 ∷ []) (104 ∷ []) (record_of (100 ∷ [])) ≡ Ok (addr 8, 112))
    × (leaf_in 120 (100 ∷ []) (104 ∷ []) (record_of (103 ∷ 122 ∷ 122 ∷ [])) ≡ Ok (addr 8, 112))
    × (leaf_in 120 (100 ∷ []) (104 ∷ []) (record_of (104 ∷ [])) ≡ Err Outside)
    × (leaf_in 120 (100 ∷ []) (104 ∷ []) (record_of (99 ∷ 122 ∷ 122 ∷ [])) ≡ Err Outside)
    × (leaf_in 120 (100 ∷ []) [] (record_of (99 ∷ 122 ∷ 122 ∷ [])) ≡ Err Outside)
    × (leaf_in 120 (104 ∷ []) (100 ∷ []) [] ≡ Err Outside)
    × (leaf_in 120 (100 ∷ []) (100 ∷ []) [] ≡ Err Outside)
    × (leaf_in 120 (100 ∷ 97 ∷ []) (100 ∷ 99 ∷ []) (record_of (100 ∷ [])) ≡ Err Outside)
    × (leaf_in 120 (100 ∷ 97 ∷ []) (100 ∷ 99 ∷ []) (record_of (100 ∷ 99 ∷ [])) ≡ Err Outside)
    × (leaf_in 120 (100 ∷ 97 ∷ []) (100 ∷ 99 ∷ []) (record_of (120 ∷ [])) ≡ Err WrongPrefix)
    × (leaf_in 120 (100 ∷ []) (104 ∷ []) (record_of (120 ∷ []) ++ record_of (101 ∷ [])) ≡ Err OutOfOrder)
    × (leaf_in 112 [] (104 ∷ []) (record_of []) ≡ Ok (addr 8, 104))
    × (leaf_in 8 (100 ∷ []) (104 ∷ []) (record_of (104 ∷ [])) ≡ Err Outside)
    × (leaf_in 8 (100 ∷ []) (104 ∷ []) (record_of (101 ∷ [])) ≡ Err NoRoom)
unfolding new_answer common begun_of same_key record_at index_at spot_at after list_f well_f step_of list_next next_of left_of entry_of entries well_formed only key_bytes above rising_from rising prefixed below_hi all_in_bounds bounded starts_with cmp_bytes newer_than part part_or of_le of_be be_at leaf_at leaf_end le enc uleb box_bytes base_front base_back base_bytes page_bytes ver_bytes leaf_front leaf_key flag_of hist_bytes front_bytes inline_bytes remote_bytes size_of fits cuts_from total pad remote_len cost costs_of remotes_len key_len old_run sums counted room_of remote_addr val_bytes remote_frame remote_frame_of remote_frames remote_addrs old_rec old_recs old_slots hist_head hist_size hist_page page_end history history_end starts hist_addrs places_in places head_rec head_recs head_slots les hints leaf_size leaf_room leaf_frame leaf_image larger
leaves = (refl, refl, refl, refl, refl, refl, refl, refl, refl, refl, refl, refl, refl, refl)

pub indexes : (index_in 96 (100 ∷ []) (104 ∷ []) (child_of_lem (100 ∷ [])) ≡ Ok (addr 8, 96))
    × (index_in 120 (100 ∷ []) (104 ∷ []) (child_of_lem (103 ∷ 122 ∷ 122 ∷ [])) ≡ Ok (addr 8, 104))
    × (index_in 120 (100 ∷ []) (104 ∷ []) (child_of_lem (104 ∷ [])) ≡ Err Outside)
    × (index_in 120 (100 ∷ []) (104 ∷ []) (child_of_lem (99 ∷ 122 ∷ 122 ∷ [])) ≡ Err Outside)
    × (index_in 120 (100 ∷ []) [] (child_of_lem (99 ∷ 122 ∷ 122 ∷ [])) ≡ Err Outside)
    × (index_in 120 (104 ∷ []) (100 ∷ []) [] ≡ Err Outside)
    × (index_in 120 (100 ∷ []) (100 ∷ []) [] ≡ Err Outside)
    × (index_in 120 (100 ∷ 97 ∷ []) (100 ∷ 99 ∷ []) (child_of_lem (100 ∷ [])) ≡ Err Outside)
    × (index_in 120 (100 ∷ 97 ∷ []) (100 ∷ 99 ∷ []) (child_of_lem (100 ∷ 99 ∷ [])) ≡ Err Outside)
    × (index_in 120 (100 ∷ 97 ∷ []) (100 ∷ 99 ∷ []) (child_of_lem (120 ∷ [])) ≡ Err WrongPrefix)
    × (index_in 120 (100 ∷ []) (104 ∷ []) (child_of_lem (120 ∷ []) ++ child_of_lem (101 ∷ [])) ≡ Err OutOfOrder)
    × (index_in 96 [] (104 ∷ []) (child_of_lem []) ≡ Ok (addr 8, 96))
    × (index_in 8 (100 ∷ []) (104 ∷ []) (child_of_lem (104 ∷ [])) ≡ Err Outside)
    × (index_in 8 (100 ∷ []) (104 ∷ []) (child_of_lem (101 ∷ [])) ≡ Err NoRoom)
unfolding new_index_answer common begun_of same_key record_at index_at spot_at after list_f well_f step_of list_next next_of left_of entry_of entries well_formed key_bytes above rising_from rising prefixed below_hi all_in_bounds bounded starts_with cmp_bytes newer_than part part_or of_le of_be be_at index_end le enc uleb box_bytes base_front base_back base_bytes page_bytes index_key pad key_len index_recs index_key_size index_key_len index_slots index_sums index_size index_image larger
indexes = (refl, refl, refl, refl, refl, refl, refl, refl, refl, refl, refl, refl, refl, refl)
