-- What a build of the oracle says in our definitions' words: a call, a list's bytes, and the bytes from the next free address on.
-- Assumes nothing.
use Rattle.std.specs.Prelude.{◌≡◌, List, [], ℕ}
use Rattle.spans.specs.Span.{part, part_or}
use Rattle.numbers.specs.Number.{le, of_le, of_be, be_at}
use Rattle.order.specs.Order.{cmp_bytes}
use Rattle.lengths.specs.Leb128.{enc, uleb}
use Rattle.frames.specs.Stored.{box_bytes, base_front, base_back, base_bytes, page_bytes}
use Rattle.values.specs.Keys.{ver_bytes, leaf_front, leaf_key, index_key}
use Rattle.values.specs.Vals.{flag_of, hist_bytes, front_bytes, inline_bytes, remote_bytes, size_of}
use Rattle.build_paging.specs.Cuts.{fits, cuts_from, total}
use Rattle.build_sources.specs.Keys.{key_bytes}
use Rattle.build_sources.specs.Lists.{first_of, same_key, record_at, index_at, spot_at}
use Rattle.build_sources.specs.Source.{after, list_f, step_of, next_of, left_of, entry_of, entries, only}
use Rattle.build_image.specs.Prefix.{common}
use Rattle.build_image.specs.Sizes.{pad, remote_len, cost, costs_of, remotes_len, key_len, old_run, sums, counted, room_of}
use Rattle.build_image.specs.Image.{remote_addr, val_bytes, remote_frame, remote_frame_of, remote_frames, remote_addrs, old_rec, old_recs, old_slots, hist_head, hist_size, hist_page, page_end, history, history_end, starts, hist_addrs, places_in, places, head_rec, head_recs, head_slots, les, hints, leaf_size, leaf_room, leaf_frame, leaf_image, index_recs, index_key_len, index_sums, index_slots, index_size, index_image, Borders}

pub record Row : Type 0 where
  pub at : ℕ
  pub limit : ℕ
  pub budget : ℕ
  pub txid : ℕ
  pub group : ℕ
  pub lsn : ℕ
  pub sibling : ℕ
  pub lo : List ℕ
  pub hi : List ℕ

-- rule 1: the prefix is what both boundaries begin with
abbrev pub bounds_of : Row → Borders
bounds_of r = record { lo = r.lo; hi = r.hi; prefix = common r.lo r.hi; sibling = r.sibling }

unfoldable pub leaf_of : Row → List ℕ → List ℕ
unfolding part part_or le of_le of_be be_at cmp_bytes enc uleb box_bytes base_front base_back base_bytes page_bytes ver_bytes leaf_front leaf_key flag_of hist_bytes front_bytes inline_bytes remote_bytes size_of fits cuts_from total key_bytes same_key record_at index_at spot_at after list_f step_of next_of left_of entry_of entries only common pad remote_len cost costs_of remotes_len key_len old_run sums counted room_of remote_addr val_bytes remote_frame remote_frame_of remote_frames remote_addrs old_rec old_recs old_slots hist_head hist_size hist_page page_end history history_end starts hist_addrs places_in places head_rec head_recs head_slots les hints leaf_size leaf_room leaf_frame leaf_image
leaf_of r l =
    leaf_image (record { limit = r.limit; budget = r.budget; group = r.group; txid = r.txid; lsn = r.lsn })
    (bounds_of r)
    r.at
    (entries l [] (first_of 0))

unfoldable pub index_of : Row → List ℕ → List ℕ
unfolding part part_or le of_le of_be be_at cmp_bytes enc uleb box_bytes base_front base_back base_bytes page_bytes index_key key_bytes same_key record_at index_at spot_at after list_f step_of next_of left_of entry_of entries common pad index_recs index_key_len index_sums index_slots index_size index_image
index_of r l =
    index_image (record { limit = r.limit; budget = r.budget; group = r.group; txid = r.txid; lsn = r.lsn })
    (bounds_of r)
    (entries l [] (first_of 1))

-- the definition's image of the list l is the oracle's
abbrev pub LeafIs : Row → List ℕ → List ℕ → Type 0
LeafIs r l x = leaf_of r l ≡ x

abbrev pub IndexIs : Row → List ℕ → List ℕ → Type 0
IndexIs r l x = index_of r l ≡ x
