-- Document 01's lists: P7's, whose beginning is 01 00 00 00 29, and P11's, one key and version twice.
-- Assumes nothing.
use mathlib.Core.Path.{◌≡◌, refl}
use mathlib.Core.List.{List, [], ◌∷◌}
use mathlib.Core.Bool.{true, false}
use Prim.Native.Nat.{ℕ}
use Rattle.spans.specs.Span.{part, part_or}
use Rattle.numbers.specs.Number.{of_le, of_be, be_at}
use Rattle.order.specs.Order.{cmp_bytes}
use Rattle.order.specs.Version.{ver_of, newer_than}
use Rattle.build_sources.specs.Keys.{key_bytes}
use Rattle.build_sources.specs.Lists.{begun_of, first_of, same_key, record_at, spot_at}
use Rattle.build_sources.specs.Source.{after, list_f, well_f, step_of, next_of, left_of, entry_of, entries, well_formed}
use Rattle.build_sources.specs.Judged.{above, rising_from, rising}
use Rattle.std.proofs.Common.{Some}

unfoldable pub p7_list : List ℕ
p7_list =
    0x01 ∷ 0x00 ∷ 0x00 ∷ 0x00 ∷ 0x29 ∷
    0 ∷ 1 ∷ 97 ∷ 0 ∷ 0 ∷ 0 ∷ 0 ∷ 0 ∷ 0 ∷ 0 ∷ 5 ∷ 0 ∷ 0 ∷ 0 ∷ 0 ∷ 0 ∷ 0 ∷ 0 ∷ 2 ∷ 120 ∷ 121 ∷
    0 ∷ 1 ∷ 97 ∷ 0 ∷ 0 ∷ 0 ∷ 0 ∷ 0 ∷ 0 ∷ 0 ∷ 3 ∷ 0 ∷ 0 ∷ 0 ∷ 0 ∷ 0 ∷ 0 ∷ 0 ∷ 1 ∷ 122 ∷ []

pub p7-opens : begun_of p7_list 0 ≡ Some (first_of 0)
unfolding p7_list begun_of be_at of_be of_le part
p7-opens = refl

pub p7-entries : entries p7_list [] (first_of 0)
    ≡ record { old = false; key = 97 ∷ []; ver = ver_of 5 0; val = 120 ∷ 121 ∷ []; kept = 0; page = 0 }
    ∷ record { old = true; key = 97 ∷ []; ver = ver_of 3 0; val = 122 ∷ []; kept = 0; page = 0 }
    ∷ []
unfolding p7_list entries entry_of next_of step_of spot_at record_at same_key key_bytes part_or part be_at of_be of_le list_f after left_of cmp_bytes
p7-entries = refl

pub p7-well : (well_formed p7_list [] (first_of 0) ≡ true) × (rising (entries p7_list [] (first_of 0)) ≡ true)
unfolding p7_list well_formed well_f rising rising_from above newer_than entries entry_of next_of step_of spot_at record_at same_key key_bytes part_or part be_at of_be of_le list_f after left_of cmp_bytes
p7-well = (refl, refl)

-- P11 "one key and version twice is 6"
unfoldable pub p11_list : List ℕ
p11_list =
    0x01 ∷ 0x00 ∷ 0x00 ∷ 0x00 ∷ 0x28 ∷
    0 ∷ 1 ∷ 97 ∷ 0 ∷ 0 ∷ 0 ∷ 0 ∷ 0 ∷ 0 ∷ 0 ∷ 5 ∷ 0 ∷ 0 ∷ 0 ∷ 0 ∷ 0 ∷ 0 ∷ 0 ∷ 1 ∷ 120 ∷
    0 ∷ 1 ∷ 97 ∷ 0 ∷ 0 ∷ 0 ∷ 0 ∷ 0 ∷ 0 ∷ 0 ∷ 5 ∷ 0 ∷ 0 ∷ 0 ∷ 0 ∷ 0 ∷ 0 ∷ 0 ∷ 1 ∷ 122 ∷ []

pub p11_order : (well_formed p11_list [] (first_of 0) ≡ true) × (rising (entries p11_list [] (first_of 0)) ≡ false)
unfolding p11_list well_formed well_f rising rising_from above newer_than entries entry_of next_of step_of spot_at record_at same_key key_bytes part_or part be_at of_be of_le list_f after left_of cmp_bytes
p11_order = (refl, refl)
