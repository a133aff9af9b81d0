-- P7 walked forward and backward, over the whole arena as it is; and walks that are refused.
-- Assumes nothing.
use Rattle.std.specs.Prelude.{ℕ, zero, suc, ◌≡◌, refl, List, [], ◌∷◌, ◌++◌, pos, negsuc, set, Result, Ok, Err}
use Rattle.spans.specs.Span.{part, part_or}
use Rattle.numbers.specs.Number.{of_le, le_at}
use Rattle.order.specs.Version.{ver_of}
use Rattle.lengths.specs.Leb128.{carry, dec, within, read_len}
use Rattle.frames.specs.declared.Addr.{Addr}
use Rattle.frames.specs.Layout.{addr, box_fields, box_ok, box_at, base_fields, base_ok, page_at, kind_of, body_of, open_at, remote_at}
use Rattle.frames.specs.Cases.{p7}
use Rattle.values.specs.Keys.{ver_in, skip_of, key_at}
use Rattle.values.specs.Vals.{ref_at, front_at, val_at}
use Rattle.records.specs.Records.{slot_at, key_in, val_in, rec_in, rec_at}
use Rattle.pages.specs.Sound.{history_at}
use Rattle.walks.specs.Walk.{up_range, down_range, up_way, kind_of_way, forward_at, backward_at, fits_in, read_at, moved_of, on_of, behind_of, item_of, next_in, next_old, enter_at, head_step, step_at}
use Rattle.walks.specs.Refused.{begun_number, step_number}
use Rattle.walks.specs.Listed.{Entry, entry_of}
use Rattle.frames.specs.declared.Refusal.{Refusal}
use Rattle.walks.specs.declared.Step.{Step}
use Rattle.walks.specs.declared.Walk.{Walk}

-- a walk's first n steps: what each lists, the history page that it names, and the number of the step that ends it
pub record Told : Type 0 where
  pub entry : Entry
  pub names : Addr

pub data StepsTold : Type 0 where
  ended : StepsTold
  open_still : StepsTold
  refused : ℕ → StepsTold
  then : Told → StepsTold → StepsTold

abbrev run_of : List ℕ → (Result Step Refusal → StepsTold) → Result Step Refusal → StepsTold
run_of s go (Ok (Step.Found x w)) = then (record { entry = entry_of s [] x; names = x.named }) (go (step_at s w))
run_of s go (Ok (Step.Leads x w)) = open_still
run_of s go (Ok Step.End) = ended
run_of s go (Err r) = refused (step_number (Err r))

unfoldable pub run_from : ℕ → List ℕ → Result Step Refusal → StepsTold
run_from zero s x = open_still
run_from (suc n) s x = run_of s (run_from n s) x

abbrev pub begun_run : List ℕ → Result Walk Refusal → StepsTold
begun_run s (Ok w) = run_from 4 s (step_at s w)
begun_run s (Err r) = refused (begun_number (Err r))

-- "a", version (5,0), "xy", which names the history page at 8, and then (3,0) "z"
abbrev head7 : Told
head7 = record { entry = record { key = 97 ∷ []; ver = ver_of 5 0; value = 120 ∷ 121 ∷ [] }; names = addr 8 }

abbrev old7 : Told
old7 = record { entry = record { key = 97 ∷ []; ver = ver_of 3 0; value = 122 ∷ [] }; names = addr 0 }

pub P7_forward : begun_run p7 (forward_at p7 (addr 104) 0 1) ≡ then head7 (then old7 ended)
unfolding p7 part part_or of_le le_at box_fields box_ok box_at base_fields base_ok page_at kind_of body_of open_at remote_at carry dec within read_len skip_of key_at ref_at front_at val_at slot_at ver_in key_in val_in rec_in rec_at history_at up_range down_range up_way kind_of_way forward_at backward_at fits_in read_at moved_of on_of behind_of item_of next_in next_old enter_at head_step step_at entry_of run_from
P7_forward = refl

pub P7_backward : begun_run p7 (backward_at p7 (addr 104) (pos 0) (pos 0)) ≡ then head7 (then old7 ended)
unfolding p7 part part_or of_le le_at box_fields box_ok box_at base_fields base_ok page_at kind_of body_of open_at remote_at carry dec within read_len skip_of key_at ref_at front_at val_at slot_at ver_in key_in val_in rec_in rec_at history_at up_range down_range up_way kind_of_way forward_at backward_at fits_in read_at moved_of on_of behind_of item_of next_in next_old enter_at head_step step_at entry_of run_from
P7_backward = refl

-- "end above elems is 4 at any begin; begin above end lists nothing"; a history page is no page
pub P7_ranges : (begun_run p7 (forward_at p7 (addr 104) 0 2) ≡ refused 4) × (begun_run p7 (forward_at p7 (addr 104) 9 2) ≡ refused 4) × (begun_run p7 (forward_at p7 (addr 104) 9 1) ≡ ended) × (begun_run p7 (forward_at p7 (addr 104) 1 1) ≡ ended) × (begun_run p7 (forward_at p7 (addr 8) 0 0) ≡ refused 4)
unfolding p7 part part_or of_le le_at box_fields box_ok box_at base_fields base_ok page_at kind_of body_of open_at up_range up_way forward_at step_at run_from
P7_ranges = (refl, refl, refl, refl, refl)

-- "start below end lists nothing. Otherwise an end below 0 or a start at or above elems is 4"
pub P7_ranges_back : (begun_run p7 (backward_at p7 (addr 104) (negsuc 4) (negsuc 2)) ≡ ended) × (begun_run p7 (backward_at p7 (addr 104) (pos 0) (pos 7)) ≡ ended) × (begun_run p7 (backward_at p7 (addr 104) (pos 0) (negsuc 0)) ≡ refused 4) × (begun_run p7 (backward_at p7 (addr 104) (pos 1) (pos 0)) ≡ refused 4) × (begun_run p7 (backward_at p7 (addr 104) (negsuc 0) (negsuc 0)) ≡ refused 4)
unfolding p7 part part_or of_le le_at box_fields box_ok box_at base_fields base_ok page_at kind_of body_of open_at down_range backward_at step_at run_from
P7_ranges_back = (refl, refl, refl, refl, refl)

-- a history of two where one is left: "If the chain ends while records remain, the step that lacks its record is 4"
pub P7-short : begun_run (set p7 205 2) (forward_at (set p7 205 2) (addr 104) 0 1) ≡ then head7 (then old7 (refused 4))
unfolding p7 part part_or of_le le_at box_fields box_ok box_at base_fields base_ok page_at kind_of body_of open_at remote_at carry dec within read_len skip_of key_at ref_at front_at val_at slot_at ver_in key_in val_in rec_in rec_at history_at up_range down_range up_way kind_of_way forward_at backward_at fits_in read_at moved_of on_of behind_of item_of next_in next_old enter_at head_step step_at entry_of run_from
P7-short = refl

-- a second history page at 240, to which the first links, with (2,0) "z": named in the step that yields its first record
unfoldable pub linked : List ℕ
linked = set (set (set (p7 ++ part p7 8 96) 16 240) 205 2) 316 2

abbrev linked7 : Told
linked7 = record { entry = record { key = 97 ∷ []; ver = ver_of 2 0; value = 122 ∷ [] }; names = addr 240 }

pub linked_both : (begun_run linked (forward_at linked (addr 104) 0 1) ≡ then head7 (then old7 (then linked7 ended))) × (begun_run linked (backward_at linked (addr 104) (pos 0) (pos 0)) ≡ then head7 (then old7 (then linked7 ended)))
unfolding p7 linked part part_or of_le le_at box_fields box_ok box_at base_fields base_ok page_at kind_of body_of open_at remote_at carry dec within read_len skip_of key_at ref_at front_at val_at slot_at ver_in key_in val_in rec_in rec_at history_at up_range down_range up_way kind_of_way forward_at backward_at fits_in read_at moved_of on_of behind_of item_of next_in next_old enter_at head_step step_at entry_of run_from
linked_both = (refl, refl)
