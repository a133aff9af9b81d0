-- Document 01's table for new_intl and new_leaf: refused with a number exactly when; a refusal leaves every byte.
-- Assumes nothing.
use mathlib.Core.Path.{◌≡◌, refl}
use mathlib.Core.List.{List}
use mathlib.Core.Bool.{true, false, ◌&&◌}
use Prim.Native.Nat.{ℕ, ◌+◌}
use lib.Dec.{leb}
use lib.ListN.{length, take}
use Rattle.spans.specs.Span.{put}
use Rattle.frames.specs.Limits.{max_entries, max_size}
use Rattle.build_sources.specs.Source.{Entry}
use Rattle.build_sources.specs.Judged.{rising, prefixed, enclosed}
use Rattle.build_image.specs.declared.Call.{Call}
use Rattle.build_image.specs.Image.{Borders, leaf_size, leaf_room, leaf_image, index_size, index_image}
use Rattle.build_totals.specs.Totals.{leaf_at}
use Rattle.build_image.specs.Call.{next_ok, built_number}
use Rattle.build_image.specs.Table.{Row}
use Rattle.build_table.specs.Table.{bounds_ok, leaf_limits, list_ok}
use Rattle.build_table.specs.Index.{index_end}
use Rattle.build_table.specs.Leaf.{leaf_end}
use Rattle.build_image.proofs.Tables.{All}
use Rattle.build_image.proofs.Exactly.{Exactly, before, asks, once, call_exactly, call_accepted, call_stays}
use Rattle.base.specs.Calls.{listed, new_index_rows, new_index_answer, new_index_arena, new_rows, new_answer, new_arena}

-- ---- new_intl

module _ (a : List ℕ) (next : ℕ) (l : List ℕ) (m : Call) (b : Borders) where
  abbrev es : List Entry
  es = listed l (take next a) 1

  abbrev rows : List Row
  rows = new_index_rows a next l m b

  -- one row, by the law for any table
  is : (n : ℕ) → once n rows ≡ true → Exactly (built_number (new_index_answer a next l m b) ≡ n) (All (before n rows) × (asks n rows ≡ false))
  unfolding new_index_answer
  is = call_exactly rows next (index_end next m b es)

  pub index_1 : Exactly (built_number (new_index_answer a next l m b) ≡ 1) (All (before 1 rows) × (bounds_ok b.lo b.hi ≡ false))
  index_1 = is 1 refl

  pub index_2 : Exactly (built_number (new_index_answer a next l m b) ≡ 2) (All (before 2 rows) × (next_ok (length a) next ≡ false))
  index_2 = is 2 refl

  pub index_3 : Exactly (built_number (new_index_answer a next l m b) ≡ 3) (All (before 3 rows) × (list_ok l (take next a) 1 ≡ false))
  index_3 = is 3 refl

  pub index_6 : Exactly (built_number (new_index_answer a next l m b) ≡ 6) (All (before 6 rows) × (rising es ≡ false))
  index_6 = is 6 refl

  pub index_7 : Exactly (built_number (new_index_answer a next l m b) ≡ 7) (All (before 7 rows) × (prefixed (take b.prefix b.lo) es ≡ false))
  index_7 = is 7 refl

  pub index_10 : Exactly (built_number (new_index_answer a next l m b) ≡ 10) (All (before 10 rows) × (enclosed b.lo b.hi es ≡ false))
  index_10 = is 10 refl

  pub index_8 : Exactly (built_number (new_index_answer a next l m b) ≡ 8) (All (before 8 rows) × (leb (length es) max_entries && leb (index_size b es) max_size ≡ false))
  index_8 = is 8 refl

  pub index_9 : Exactly (built_number (new_index_answer a next l m b) ≡ 9) (All (before 9 rows) × (leb (index_end next m b es) (length a) ≡ false))
  index_9 = is 9 refl

  pub index_accepted : Exactly (built_number (new_index_answer a next l m b) ≡ 0) (All rows)
  unfolding new_index_answer
  index_accepted = call_accepted rows next (index_end next m b es)

  -- a refusal changes nothing
  pub index_stays : (built_number (new_index_answer a next l m b) ≡ 0 → ⊥) → new_index_arena a next l m b ≡ a
  unfolding new_index_answer new_index_arena
  index_stays = call_stays rows next (index_end next m b es) a (put a next (index_image m b es))

-- ---- new_leaf

module _ (a : List ℕ) (next : ℕ) (l : List ℕ) (m : Call) (b : Borders) where
  abbrev les : List Entry
  les = listed l (take next a) 0

  abbrev lrows : List Row
  lrows = new_rows a next l m b

  new_is : (n : ℕ) → once n lrows ≡ true → Exactly (built_number (new_answer a next l m b) ≡ n) (All (before n lrows) × (asks n lrows ≡ false))
  unfolding new_answer
  new_is = call_exactly lrows (leaf_at m next les) (leaf_end next m b les)

  pub new_1 : Exactly (built_number (new_answer a next l m b) ≡ 1) (All (before 1 lrows) × (leaf_limits m.limit m.budget b.lo b.hi ≡ false))
  new_1 = new_is 1 refl

  pub new_2 : Exactly (built_number (new_answer a next l m b) ≡ 2) (All (before 2 lrows) × (next_ok (length a) next ≡ false))
  new_2 = new_is 2 refl

  pub new_3 : Exactly (built_number (new_answer a next l m b) ≡ 3) (All (before 3 lrows) × (list_ok l (take next a) 0 ≡ false))
  new_3 = new_is 3 refl

  pub new_6 : Exactly (built_number (new_answer a next l m b) ≡ 6) (All (before 6 lrows) × (rising les ≡ false))
  new_6 = new_is 6 refl

  pub new_7 : Exactly (built_number (new_answer a next l m b) ≡ 7) (All (before 7 lrows) × (prefixed (take b.prefix b.lo) les ≡ false))
  new_7 = new_is 7 refl

  pub new_10 : Exactly (built_number (new_answer a next l m b) ≡ 10) (All (before 10 lrows) × (enclosed b.lo b.hi les ≡ false))
  new_10 = new_is 10 refl

  pub new_8 : Exactly (built_number (new_answer a next l m b) ≡ 8) (All (before 8 lrows) × (leb (length les) max_entries && leb (leaf_size m b les + leaf_room m les) max_size ≡ false))
  new_8 = new_is 8 refl

  pub new_9 : Exactly (built_number (new_answer a next l m b) ≡ 9) (All (before 9 lrows) × (leb (leaf_end next m b les) (length a) ≡ false))
  new_9 = new_is 9 refl

  pub new_accepted : Exactly (built_number (new_answer a next l m b) ≡ 0) (All lrows)
  unfolding new_answer
  new_accepted = call_accepted lrows (leaf_at m next les) (leaf_end next m b les)

  -- a refusal changes nothing
  pub new_stays : (built_number (new_answer a next l m b) ≡ 0 → ⊥) → new_arena a next l m b ≡ a
  unfolding new_answer new_arena
  new_stays = call_stays lrows (leaf_at m next les) (leaf_end next m b les) a (put a next (leaf_image m b next les))
