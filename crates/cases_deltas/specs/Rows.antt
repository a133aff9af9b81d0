-- What the oracle says of deltas and overlays in our definitions' words: an answer is a list, 0 and what is answered, or the number of refusal.
-- Assumes nothing.
use Rattle.std.specs.Prelude.{List, [], ◌∷◌, ℕ, length, Result, Ok, Err}
use Rattle.spans.specs.Span.{part, part_or}
use Rattle.numbers.specs.Number.{le, of_le, le_at}
use Rattle.order.specs.Order.{cmp_bytes, starts_with}
use Rattle.order.specs.Version.{ver_of, newer_than}
use Rattle.lengths.specs.Leb128.{enc, uleb, dec, carry, within, read_len}
use Rattle.frames.specs.Refusals.{number_of}
use Rattle.frames.specs.Layout.{addr, page_id, box_fields, box_ok, box_at, base_fields, base_ok, page_at, kind_of, body_of, open_at, remote_at, delta_at}
use Rattle.frames.specs.Stored.{box_bytes}
use Rattle.values.specs.Keys.{ver_in, ver_bytes, leaf_front, leaf_key, index_key, leaf_key_size, index_key_size, skip_of, key_at}
use Rattle.values.specs.Vals.{flag_of, hist_bytes, front_bytes, inline_bytes, remote_bytes, size_of, ref_at, front_at, val_at}
use Rattle.records.specs.Records.{slot_at, key_in, key_at_slot, val_in, rec_in, rec_at}
use Rattle.records.specs.Parts.{prefix_in}
use Rattle.pages.specs.Boundaries.{part_in}
use Rattle.sst.specs.Halve.{halve}
use Rattle.sst.specs.Search.{newer_at, key_cmp, right_kind, ready_at, fits_prefix, halved, elsewhere, probed, outcome_at}
use Rattle.build_image.specs.Sizes.{pad, remote_len}
use Rattle.build_image.specs.Image.{remote_frame}
use Rattle.build_image.specs.Call.{larger, call_of}
use Rattle.delta.specs.Deltas.{value_of, remote_of, delta_head, delta_frame, leaf_frame, index_frame, leaf_delta, leaf_len, index_len}
use Rattle.delta.specs.Built.{leaf_built, index_built, pair_ok}
use Rattle.delta.specs.Read.{delta_is, leaf_key_at, index_key_at, value_at, child_at}
use Rattle.delta.specs.Read as D
use Rattle.search_head.specs.Head.{head_slot, head_at}
use Rattle.overlay.specs.Overlay.{page_value, is_probe, delta_value, laid_by, laid_at}
use Rattle.delta.specs.declared.LeafKey.{LeafKey}
use Rattle.frames.specs.declared.Addr.{Addr}
use Rattle.frames.specs.declared.PageId.{PageId}
use Rattle.frames.specs.declared.Refusal.{Refusal}
use Rattle.overlay.specs.declared.Laid.{Laid}
use Rattle.pages.specs.declared.Place.{Place}

abbrev built_row : Result (Addr × ℕ) Refusal → List ℕ → List ℕ
built_row (Ok (a, n)) image = 0 ∷ a.0 ∷ n ∷ image
built_row (Err r) image = number_of r ∷ []

unfoldable pub leaf_row : ℕ → ℕ → ℕ → ℕ → ℕ → ℕ → ℕ → ℕ → List ℕ → List ℕ → List ℕ
unfolding larger le enc uleb box_bytes ver_bytes leaf_front leaf_key flag_of hist_bytes front_bytes inline_bytes remote_bytes size_of pad remote_len remote_frame value_of remote_of delta_head delta_frame leaf_frame leaf_delta leaf_key_size leaf_len pair_ok leaf_built
leaf_row len next limit group lsn ckpt txid cmd key val =
    built_row (leaf_built (call_of limit 0 group txid lsn ckpt) len next (length key) (length val)) (leaf_delta (call_of limit 0 group txid lsn ckpt) next (ver_of txid cmd) key val)

unfoldable pub index_row : ℕ → ℕ → ℕ → ℕ → ℕ → ℕ → List ℕ → ℕ → List ℕ
unfolding larger le enc uleb box_bytes index_key pad delta_head delta_frame index_frame index_key_size index_len pair_ok index_built
index_row len next txid group lsn ckpt key page = built_row (index_built len next (length key)) (index_frame (call_of 0 0 group txid lsn ckpt) key (page_id page))

abbrev key_row : List ℕ → Result LeafKey Refusal → List ℕ
key_row s (Ok k) = 0 ∷ k.ver.txid ∷ k.ver.cmd ∷ part_in s k.key
key_row s (Err r) = number_of r ∷ []

unfoldable pub dkey : List ℕ → ℕ → List ℕ
unfolding part part_or of_le le_at dec carry within read_len box_fields box_ok box_at delta_at skip_of key_at ver_in delta_is D.key_in leaf_key_at
dkey s a = key_row s (leaf_key_at s (addr a))

abbrev val_row : List ℕ → Result Place Refusal → List ℕ
val_row s (Ok p) = 0 ∷ part_in s p
val_row s (Err r) = number_of r ∷ []

unfoldable pub dval : List ℕ → ℕ → List ℕ
unfolding part part_or of_le le_at box_fields box_ok box_at delta_at remote_at ref_at front_at val_at delta_is D.val_in value_at
dval s a = val_row s (value_at s (addr a))

abbrev index_key_row : List ℕ → Result Place Refusal → List ℕ
index_key_row s (Ok p) = 0 ∷ part_in s p
index_key_row s (Err r) = number_of r ∷ []

unfoldable pub ikey : List ℕ → ℕ → List ℕ
unfolding part part_or of_le le_at dec carry within read_len box_fields box_ok box_at delta_at skip_of key_at delta_is D.key_in index_key_at
ikey s a = index_key_row s (index_key_at s (addr a))

abbrev child_row : Result PageId Refusal → List ℕ
child_row (Ok p) = 0 ∷ p.0 ∷ []
child_row (Err r) = number_of r ∷ []

unfoldable pub ipid : List ℕ → ℕ → List ℕ
unfolding part of_le le_at box_fields box_ok box_at delta_at delta_is child_at
ipid s a = child_row (child_at s (addr a))

-- 1 from the delta, 2 from the page
abbrev laid_row : List ℕ → List ℕ → Result Laid Refusal → List ℕ
laid_row s t (Ok (Laid.Delta p)) = 0 ∷ 1 ∷ part_in t p
laid_row s t (Ok (Laid.Page p)) = 0 ∷ 2 ∷ part_in s p
laid_row s t (Ok Laid.Nothing) = 0 ∷ []
laid_row s t (Err r) = number_of r ∷ []

unfoldable pub overlay : List ℕ → ℕ → List ℕ → ℕ → List ℕ → List ℕ
unfolding part part_or of_le le_at cmp_bytes starts_with newer_than dec carry within read_len box_fields box_ok box_at base_fields base_ok page_at kind_of body_of open_at delta_at remote_at skip_of key_at ref_at front_at val_at ver_in slot_at key_in key_at_slot val_in rec_in rec_at prefix_in halve newer_at key_cmp right_kind ready_at fits_prefix halved elsewhere probed outcome_at delta_is D.key_in leaf_key_at D.val_in value_at head_slot head_at page_value is_probe delta_value laid_by laid_at
overlay s a t d probe = laid_row s t (laid_at s (addr a) t (addr d) probe)
