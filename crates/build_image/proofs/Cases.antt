-- P5 and P7 of document 01, one statement each: P7's whole arena is the definition's image.
-- Assumes nothing.
use mathlib.Core.Path.{◌≡◌, refl}
use mathlib.Core.List.{List, [], ◌∷◌}
use mathlib.Core.Bool.{true, false}
use Prim.Native.Nat.{ℕ, ◌+◌}
use lib.ListN.{length, drop}
use Rattle.numbers.specs.Number.{le}
use Rattle.lengths.specs.Leb128.{enc, uleb}
use Rattle.order.specs.Version.{ver_of}
use Rattle.frames.specs.Stored.{box_bytes, base_front, base_back, base_bytes, page_bytes}
use Rattle.frames.specs.Cases.{p7}
use Rattle.values.specs.Keys.{ver_bytes, leaf_front, leaf_key}
use Rattle.values.specs.Vals.{flag_of, hist_bytes, front_bytes, inline_bytes, remote_bytes, size_of}
use Rattle.build_paging.specs.Cuts.{fits, cuts_from, total}
use Rattle.build_sources.specs.Source.{Entry, only, olds}
use Rattle.build_image.specs.declared.Call.{Call}
use Rattle.build_image.specs.Call.{default_budget}
use Rattle.build_image.specs.Sizes.{pad, remote_len, cost, costs_of, remotes_len, key_len, old_run, sums, counted, room_of}
use Rattle.build_image.specs.Image.{remote_addr, val_bytes, remote_frame, remote_frame_of, remote_frames, remote_addrs, old_rec, old_recs, old_slots, hist_head, hist_size, hist_page, page_end, history, history_end, starts, hist_addrs, places_in, places, head_rec, head_recs, head_slots, les, hints, cuts_of, leaf_size, leaf_room, leaf_frame, leaf_image, Borders}

abbrev pub call : ℕ → Call
call budget = record { limit = 64; budget = budget; group = 0; txid = 0; lsn = 0 }

abbrev pub open_ended : Borders
open_ended = record { lo = []; hi = []; prefix = 0; sibling = 0 }

abbrev pub xy : Entry
xy = record { old = false; key = 97 ∷ []; ver = ver_of 5 0; val = 120 ∷ 121 ∷ []; kept = 0; page = 0 }

abbrev pub z : Entry
z = record { old = true; key = 97 ∷ []; ver = ver_of 3 0; val = 122 ∷ []; kept = 0; page = 0 }

-- P5 ""a", version (5,0), "xy", no boundaries, limit 64, next 8: size 65, slot 44, new next 112"
pub p5 : (leaf_size (call default_budget) open_ended (xy ∷ []) ≡ 65) × (leaf_room (call default_budget) (xy ∷ []) ≡ 0) × (head_slots 64 0 44 (xy ∷ []) ≡ le 4 44)
    × (8 + length (leaf_image (call default_budget) open_ended 8 (xy ∷ [])) ≡ 112)
unfolding le enc uleb box_bytes base_front base_back base_bytes page_bytes ver_bytes leaf_front leaf_key flag_of hist_bytes front_bytes inline_bytes remote_bytes size_of fits cuts_from total only pad remote_len cost costs_of remotes_len key_len old_run sums counted room_of remote_addr val_bytes remote_frame remote_frame_of remote_frames remote_addrs old_rec old_recs old_slots hist_head hist_size hist_page page_end history history_end starts hist_addrs places_in places head_rec head_recs head_slots les hints leaf_size leaf_room leaf_frame leaf_image
p5 = (refl, refl, refl, refl)

-- P7 "P5 plus (3,0) "z": history page at 8, leaf at 104, size 85, payload 101, 6 unused bytes, history (8, 0, 1), new next 240"
pub p7_image : (leaf_image (call 256) open_ended 8 (xy ∷ z ∷ []) ≡ drop 8 p7) × (history_end 64 8 (cuts_of (call 256) (xy ∷ z ∷ [])) (olds (xy ∷ z ∷ [])) ≡ 104)
    × (leaf_size (call 256) open_ended (xy ∷ z ∷ []) ≡ 85) × (leaf_size (call 256) open_ended (xy ∷ z ∷ []) + leaf_room (call 256) (xy ∷ z ∷ []) ≡ 101)
    × (8 + length (leaf_image (call 256) open_ended 8 (xy ∷ z ∷ [])) ≡ 240)
unfolding p7 le enc uleb box_bytes base_front base_back base_bytes page_bytes ver_bytes leaf_front leaf_key flag_of hist_bytes front_bytes inline_bytes remote_bytes size_of fits cuts_from total only pad remote_len cost costs_of remotes_len key_len old_run sums counted room_of remote_addr val_bytes remote_frame remote_frame_of remote_frames remote_addrs old_rec old_recs old_slots hist_head hist_size hist_page page_end history history_end starts hist_addrs places_in places head_rec head_recs head_slots les hints leaf_size leaf_room leaf_frame leaf_image
p7_image = (refl, refl, refl, refl, refl)
