-- Order 3's worked answers: probes below a page's prefix, above it, and such that begin with it, asked of pages and a delta that the Rust built.
-- Search, lower bound, floor, as of (4, 9), overlay; keys read stand last.
-- Assumes nothing.
use Rattle.std.specs.Prelude.{ℕ, ◌+◌, ◌-◌, ◌^◌, ◌≡◌, refl, List, [], ◌∷◌, Result, Ok, Err}
use Rattle.spans.specs.Span.{part, part_or, put}
use Rattle.numbers.specs.Number.{of_le, le_at}
use Rattle.order.specs.Order.{cmp_bytes, starts_with}
use Rattle.order.specs.Version.{ver_of, newer_than}
use Rattle.lengths.specs.Leb128.{carry, dec, within, read_len}
use Rattle.frames.specs.Refusals.{number_of}
use Rattle.frames.specs.Layout.{addr, box_fields, box_ok, box_at, base_fields, base_ok, page_at, kind_of, body_of, open_at, remote_at, delta_at}
use Rattle.values.specs.Keys.{ver_in, skip_of, key_at}
use Rattle.values.specs.Vals.{ref_at, front_at, val_at}
use Rattle.records.specs.Records.{slot_at, key_in, key_at_slot, val_in, rec_in, rec_at}
use Rattle.records.specs.Parts.{prefix_in}
use Rattle.pages.specs.Boundaries.{part_in}
use Rattle.pages.specs.Sound.{history_at}
use Rattle.walks.specs.Walk.{fits_in, read_at, enter_at}
use Rattle.walks.specs.Turned.{turned_at}
use Rattle.walks.specs.Aged.{key_old, aged_in, aged_at}
use Rattle.sst.specs.Halve.{halve}
use Rattle.sst.specs.Search.{newer_at, key_cmp, right_kind, ready_at, fits_prefix, halved, elsewhere, probed, outcome_at, page_in, head_in, lower_at, floor_at, search_at}
use Rattle.search_head.specs.Head.{head_slot, head_at}
use Rattle.asof.specs.AsOf.{old_as_of, old_enter, older_as_of, as_of_at}
use Rattle.delta.specs.Read.{delta_is, leaf_key_at, value_at}
use Rattle.delta.specs.Read as D
use Rattle.overlay.specs.Overlay.{page_value, is_probe, delta_value, laid_by, laid_at}
use Rattle.asof.specs.declared.AsOf.{AsOf}
use Rattle.frames.specs.declared.Refusal.{Refusal}
use Rattle.overlay.specs.declared.Laid.{Laid}
use Rattle.sst.specs.declared.Bound.{Bound}
use Rattle.sst.specs.declared.Floor.{Floor}
use Rattle.sst.specs.declared.Found.{Found}

-- lo `ba`, hi `bd`: the leaf with ba (3,0) 1, bb (5,0) 2, bb (4,0) 3, bc (2,0) 4 at 104; the index page with ba 21, bb 22, bc 23 at 288. Their
-- bytes stand in tests/vectors/searches.txt, "lo ba, hi bd"
unfoldable pub pages : List ℕ
pages = 0 ∷ 0 ∷ 0 ∷ 0 ∷ 0 ∷ 0 ∷ 0 ∷ 0 ∷ 62 ∷ 0 ∷ 0 ∷ 0 ∷ 1 ∷ 1 ∷ 1 ∷ 0 ∷ 0 ∷ 0 ∷ 0 ∷ 0 ∷ 0 ∷ 0 ∷ 0 ∷ 0 ∷ 1 ∷ 0 ∷ 0 ∷ 0 ∷ 0 ∷ 0 ∷ 0 ∷ 0 ∷ 0 ∷ 0 ∷ 0 ∷ 0 ∷ 0 ∷ 0 ∷ 0 ∷ 0 ∷ 62 ∷ 0 ∷ 0 ∷ 0 ∷ 1 ∷ 0 ∷ 0 ∷ 0 ∷ 0 ∷ 0 ∷ 0 ∷ 0 ∷ 0 ∷ 0 ∷ 0 ∷ 0 ∷ 0 ∷ 0 ∷ 0 ∷ 0 ∷ 0 ∷ 0 ∷ 0 ∷ 0 ∷ 0 ∷ 0 ∷ 0 ∷ 0 ∷ 0 ∷ 0 ∷ 0 ∷ 0 ∷ 0 ∷ 0 ∷ 0 ∷ 0 ∷ 0 ∷ 0 ∷ 0 ∷ 0 ∷ 44 ∷ 0 ∷ 0 ∷ 0 ∷ 4 ∷ 0 ∷ 0 ∷ 0 ∷ 0 ∷ 0 ∷ 0 ∷ 0 ∷ 0 ∷ 0 ∷ 0 ∷ 0 ∷ 0 ∷ 1 ∷ 0 ∷ 0 ∷ 0 ∷ 51 ∷ 0 ∷ 0 ∷ 152 ∷ 0 ∷ 0 ∷ 0 ∷ 1 ∷ 1 ∷ 0 ∷ 0 ∷ 0 ∷ 0 ∷ 0 ∷ 0 ∷ 0 ∷ 0 ∷ 0 ∷ 0 ∷ 1 ∷ 0 ∷ 0 ∷ 0 ∷ 0 ∷ 0 ∷ 0 ∷ 0 ∷ 0 ∷ 0 ∷ 0 ∷ 0 ∷ 0 ∷ 0 ∷ 0 ∷ 0 ∷ 136 ∷ 0 ∷ 0 ∷ 0 ∷ 3 ∷ 0 ∷ 0 ∷ 0 ∷ 0 ∷ 0 ∷ 0 ∷ 0 ∷ 0 ∷ 0 ∷ 0 ∷ 0 ∷ 0 ∷ 0 ∷ 0 ∷ 0 ∷ 0 ∷ 0 ∷ 0 ∷ 0 ∷ 2 ∷ 0 ∷ 0 ∷ 0 ∷ 2 ∷ 0 ∷ 0 ∷ 0 ∷ 1 ∷ 0 ∷ 0 ∷ 0 ∷ 0 ∷ 0 ∷ 1 ∷ 0 ∷ 56 ∷ 0 ∷ 0 ∷ 0 ∷ 76 ∷ 0 ∷ 0 ∷ 0 ∷ 110 ∷ 0 ∷ 0 ∷ 0 ∷ 98 ∷ 97 ∷ 98 ∷ 100 ∷ 13 ∷ 3 ∷ 0 ∷ 0 ∷ 0 ∷ 0 ∷ 0 ∷ 0 ∷ 0 ∷ 0 ∷ 0 ∷ 0 ∷ 0 ∷ 97 ∷ 0 ∷ 1 ∷ 0 ∷ 0 ∷ 0 ∷ 49 ∷ 13 ∷ 5 ∷ 0 ∷ 0 ∷ 0 ∷ 0 ∷ 0 ∷ 0 ∷ 0 ∷ 0 ∷ 0 ∷ 0 ∷ 0 ∷ 98 ∷ 1 ∷ 8 ∷ 0 ∷ 0 ∷ 0 ∷ 0 ∷ 0 ∷ 0 ∷ 0 ∷ 0 ∷ 0 ∷ 1 ∷ 0 ∷ 0 ∷ 0 ∷ 1 ∷ 0 ∷ 0 ∷ 0 ∷ 50 ∷ 13 ∷ 2 ∷ 0 ∷ 0 ∷ 0 ∷ 0 ∷ 0 ∷ 0 ∷ 0 ∷ 0 ∷ 0 ∷ 0 ∷ 0 ∷ 99 ∷ 0 ∷ 1 ∷ 0 ∷ 0 ∷ 0 ∷ 52 ∷ 0 ∷ 0 ∷ 0 ∷ 0 ∷ 0 ∷ 0 ∷ 1 ∷ 0 ∷ 0 ∷ 0 ∷ 8 ∷ 0 ∷ 0 ∷ 0 ∷ 0 ∷ 0 ∷ 0 ∷ 0 ∷ 0 ∷ 0 ∷ 0 ∷ 0 ∷ 86 ∷ 0 ∷ 0 ∷ 0 ∷ 1 ∷ 2 ∷ 0 ∷ 0 ∷ 0 ∷ 0 ∷ 0 ∷ 0 ∷ 0 ∷ 0 ∷ 0 ∷ 0 ∷ 1 ∷ 0 ∷ 0 ∷ 0 ∷ 0 ∷ 0 ∷ 0 ∷ 0 ∷ 0 ∷ 0 ∷ 0 ∷ 0 ∷ 0 ∷ 0 ∷ 0 ∷ 0 ∷ 86 ∷ 0 ∷ 0 ∷ 0 ∷ 3 ∷ 0 ∷ 0 ∷ 0 ∷ 0 ∷ 0 ∷ 0 ∷ 0 ∷ 0 ∷ 0 ∷ 0 ∷ 0 ∷ 0 ∷ 0 ∷ 0 ∷ 0 ∷ 0 ∷ 0 ∷ 0 ∷ 0 ∷ 2 ∷ 0 ∷ 0 ∷ 0 ∷ 2 ∷ 0 ∷ 0 ∷ 0 ∷ 1 ∷ 0 ∷ 0 ∷ 0 ∷ 0 ∷ 1 ∷ 0 ∷ 0 ∷ 56 ∷ 0 ∷ 0 ∷ 0 ∷ 66 ∷ 0 ∷ 0 ∷ 0 ∷ 76 ∷ 0 ∷ 0 ∷ 0 ∷ 98 ∷ 97 ∷ 98 ∷ 100 ∷ 1 ∷ 97 ∷ 21 ∷ 0 ∷ 0 ∷ 0 ∷ 0 ∷ 0 ∷ 0 ∷ 0 ∷ 1 ∷ 98 ∷ 22 ∷ 0 ∷ 0 ∷ 0 ∷ 0 ∷ 0 ∷ 0 ∷ 0 ∷ 1 ∷ 99 ∷ 23 ∷ 0 ∷ 0 ∷ 0 ∷ 0 ∷ 0 ∷ 0 ∷ 0 ∷ 0 ∷ 0 ∷ []

-- c (1,0) new, at 8: what `oracle run` answers to `dleaf 8 64 0 0 0 1 0 63 6e6577`
unfoldable pub fresh : List ℕ
fresh = 0 ∷ 0 ∷ 0 ∷ 0 ∷ 0 ∷ 0 ∷ 0 ∷ 0 ∷ 30 ∷ 0 ∷ 0 ∷ 0 ∷ 2 ∷ 1 ∷ 0 ∷ 0 ∷ 0 ∷ 0 ∷ 0 ∷ 0 ∷ 0 ∷ 0 ∷ 0 ∷ 0 ∷ 1 ∷ 0 ∷ 0 ∷ 0 ∷ 0 ∷ 0 ∷ 0 ∷ 0 ∷ 0 ∷ 0 ∷ 0 ∷ 0 ∷ 0 ∷ 0 ∷ 0 ∷ 0 ∷ 14 ∷ 0 ∷ 0 ∷ 0 ∷ 8 ∷ 0 ∷ 0 ∷ 0 ∷ 13 ∷ 1 ∷ 0 ∷ 0 ∷ 0 ∷ 0 ∷ 0 ∷ 0 ∷ 0 ∷ 0 ∷ 0 ∷ 0 ∷ 0 ∷ 99 ∷ 0 ∷ 3 ∷ 0 ∷ 0 ∷ 0 ∷ 110 ∷ 101 ∷ 119 ∷ 0 ∷ 0 ∷ []

-- an answer in a few words: a row's txid, value and keys read; none; a position; past the end; a slot with its page; a value; the number
pub data Shown : Type 0 where
  row : ℕ → List ℕ → ℕ → Shown
  none : ℕ → Shown
  at past : ℕ → ℕ → Shown
  slot : ℕ → ℕ → ℕ → Shown
  value : List ℕ → Shown
  no : ℕ → Shown

abbrev found : List ℕ → Result Found Refusal → Shown
found s (Ok (Found.Is i v h p n)) = row v.txid (part_in s p) n
found s (Ok (Found.Nothing n)) = none n
found s (Err r) = no (number_of r)

abbrev bounded : Result Bound Refusal → Shown
bounded (Ok (Bound.At p n)) = at p n
bounded (Ok (Bound.PastEnd p n)) = past p n
bounded (Err r) = no (number_of r)

abbrev floored : Result Floor Refusal → Shown
floored (Ok (Floor.Is i p n)) = slot i p.0 n
floored (Ok (Floor.Nothing n)) = none n
floored (Err r) = no (number_of r)

abbrev then : List ℕ → Result AsOf Refusal → Shown
then s (Ok (AsOf.Is i v p n)) = row v.txid (part_in s p) n
then s (Ok (AsOf.Nothing n)) = none n
then s (Err r) = no (number_of r)

abbrev laid : List ℕ → List ℕ → Result Laid Refusal → Shown
laid s t (Ok (Laid.Delta p)) = value (part_in t p)
laid s t (Ok (Laid.Page p)) = value (part_in s p)
laid s t (Ok Laid.Nothing) = none 0
laid s t (Err r) = no (number_of r)

-- the five calls, a lower bound on both pages with the largest version
unfoldable pub asked : List ℕ → List ℕ → List Shown
unfolding part part_or of_le le_at box_fields box_ok box_at base_fields base_ok page_at kind_of body_of open_at remote_at delta_at carry dec within read_len cmp_bytes starts_with newer_than skip_of key_at ref_at front_at val_at slot_at ver_in key_in key_at_slot val_in rec_in rec_at prefix_in history_at halve newer_at key_cmp right_kind ready_at fits_prefix halved elsewhere probed outcome_at page_in head_in lower_at floor_at search_at head_slot head_at fits_in read_at enter_at turned_at key_old aged_in aged_at old_as_of old_enter older_as_of as_of_at delta_is D.key_in D.val_in leaf_key_at value_at page_value is_probe delta_value laid_by laid_at
asked s probe =
    found s (search_at s (addr 104) probe)
    ∷ bounded (lower_at s (addr 104) probe (ver_of (256 ^ 8 - 1) (256 ^ 4 - 1)))
    ∷ bounded (lower_at s (addr 288) probe (ver_of (256 ^ 8 - 1) (256 ^ 4 - 1)))
    ∷ floored (floor_at s (addr 288) probe)
    ∷ then s (as_of_at s (addr 104) probe (ver_of 4 9))
    ∷ laid s fresh (laid_at s (addr 104) fresh (addr 8) probe)
    ∷ []

-- below the prefix: the empty probe, `azz`
pub below : (asked pages [] ≡ none 0 ∷ at 0 0 ∷ at 0 0 ∷ slot 0 21 0 ∷ none 0 ∷ none 0 ∷ []) × (asked pages (97 ∷ 122 ∷ 122 ∷ []) ≡ none 0 ∷ at 0 0 ∷ at 0 0 ∷ slot 0 21 0 ∷ none 0 ∷ none 0 ∷ [])
unfolding asked pages fresh
below = (refl, refl)

-- beginning with it: `b`, `bb`, `bbx`, `be`
pub beginning : (asked pages (98 ∷ []) ≡ none 2 ∷ at 0 2 ∷ at 0 2 ∷ slot 0 21 2 ∷ none 2 ∷ none 0 ∷ []) × (asked pages (98 ∷ 98 ∷ []) ≡ row 5 (50 ∷ []) 1 ∷ at 1 2 ∷ at 1 2 ∷ slot 1 22 1 ∷ row 4 (51 ∷ []) 1 ∷ value (50 ∷ []) ∷ []) × (asked pages (98 ∷ 98 ∷ 120 ∷ []) ≡ none 2 ∷ at 2 2 ∷ at 2 2 ∷ slot 1 22 2 ∷ none 2 ∷ none 0 ∷ []) × (asked pages (98 ∷ 101 ∷ []) ≡ none 2 ∷ past 3 2 ∷ past 3 2 ∷ slot 2 23 2 ∷ none 2 ∷ none 0 ∷ [])
unfolding asked pages fresh
beginning = (refl, refl, refl, refl)

-- above it: `c`, which the delta has, and FF
pub above : (asked pages (99 ∷ []) ≡ none 0 ∷ past 3 0 ∷ past 3 0 ∷ slot 2 23 0 ∷ none 0 ∷ value (110 ∷ 101 ∷ 119 ∷ []) ∷ []) × (asked pages (255 ∷ []) ≡ none 0 ∷ past 3 0 ∷ past 3 0 ∷ slot 2 23 0 ∷ none 0 ∷ none 0 ∷ [])
unfolding asked pages fresh
above = (refl, refl)

-- with every slot of both pages damaged: "Search, as of and lower bound then name no slot"; "Floor hands back a page id, so the slot and record that it
-- names are judged (4)"
abbrev pub damaged : List ℕ
damaged = put (put pages (104 + 72) (0 ∷ 0 ∷ 0 ∷ 0 ∷ 0 ∷ 0 ∷ 0 ∷ 0 ∷ 0 ∷ 0 ∷ 0 ∷ 0 ∷ [])) (288 + 72) (0 ∷ 0 ∷ 0 ∷ 0 ∷ 0 ∷ 0 ∷ 0 ∷ 0 ∷ 0 ∷ 0 ∷ 0 ∷ 0 ∷ [])

pub unnamed : (asked damaged [] ≡ none 0 ∷ at 0 0 ∷ at 0 0 ∷ no 4 ∷ none 0 ∷ none 0 ∷ []) × (asked damaged (99 ∷ []) ≡ none 0 ∷ past 3 0 ∷ past 3 0 ∷ no 4 ∷ none 0 ∷ value (110 ∷ 101 ∷ 119 ∷ []) ∷ []) × (asked damaged (98 ∷ []) ≡ no 4 ∷ no 4 ∷ no 4 ∷ no 4 ∷ no 4 ∷ no 4 ∷ [])
unfolding asked pages fresh put
unnamed = (refl, refl, refl)

-- with no key in either page: "A page without keys answers none .. before the probe is judged"
abbrev pub emptied : List ℕ
emptied = put (put pages (104 + 36) (0 ∷ [])) (288 + 36) (0 ∷ [])

pub keyless : (asked emptied [] ≡ none 0 ∷ past 0 0 ∷ past 0 0 ∷ none 0 ∷ none 0 ∷ none 0 ∷ []) × (asked emptied (99 ∷ []) ≡ none 0 ∷ past 0 0 ∷ past 0 0 ∷ none 0 ∷ none 0 ∷ value (110 ∷ 101 ∷ 119 ∷ []) ∷ [])
unfolding asked pages fresh put
keyless = (refl, refl)
