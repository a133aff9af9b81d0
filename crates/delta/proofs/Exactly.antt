-- Document 01's table for the two calls: refused with a number exactly when; a refusal leaves every byte.
-- Assumes nothing.
use mathlib.Core.Path.{◌≡◌, refl}
use mathlib.Core.List.{List}
use mathlib.Core.Bool.{true, false}
use Prim.Native.Nat.{ℕ, ◌+◌}
use lib.Dec.{leb}
use lib.ListN.{length}
use Rattle.spans.specs.Span.{put}
use Rattle.order.specs.declared.Ver.{Ver}
use Rattle.frames.specs.declared.PageId.{PageId}
use Rattle.build_image.specs.declared.Call.{Call}
use Rattle.build_image.specs.Call.{limit_ok, next_ok, built_number}
use Rattle.build_image.specs.Table.{Row}
use Rattle.build_image.proofs.Tables.{All}
use Rattle.build_image.proofs.Exactly.{Exactly, before, asks, once, call_exactly, call_accepted, call_stays}
use Rattle.delta.specs.Deltas.{leaf_delta, index_frame, index_len}
use Rattle.delta.specs.Built.{pair_ok, leaf_at, leaf_end, leaf_rows, leaf_built, leaf_arena, index_rows, index_built, index_arena}

-- ---- a leaf delta

module _ (m : Call) (len next key value : ℕ) where
  abbrev rows : List Row
  rows = leaf_rows m len next key value

  -- one row, by the law for any table
  is : (n : ℕ) → once n rows ≡ true → Exactly (built_number (leaf_built m len next key value) ≡ n) (All (before n rows) × (asks n rows ≡ false))
  unfolding leaf_built
  is = call_exactly rows (leaf_at m next value) (leaf_end m next key value)

  pub leaf_1 : Exactly (built_number (leaf_built m len next key value) ≡ 1) (All (before 1 rows) × (limit_ok m.limit ≡ false))
  leaf_1 = is 1 refl

  pub leaf_2 : Exactly (built_number (leaf_built m len next key value) ≡ 2) (All (before 2 rows) × (next_ok len next ≡ false))
  leaf_2 = is 2 refl

  pub leaf_3 : Exactly (built_number (leaf_built m len next key value) ≡ 3) (All (before 3 rows) × (pair_ok key value ≡ false))
  leaf_3 = is 3 refl

  pub leaf_9 : Exactly (built_number (leaf_built m len next key value) ≡ 9) (All (before 9 rows) × (leb (leaf_end m next key value) len ≡ false))
  leaf_9 = is 9 refl

  pub leaf_accepted : Exactly (built_number (leaf_built m len next key value) ≡ 0) (All rows)
  unfolding leaf_built
  leaf_accepted = call_accepted rows (leaf_at m next value) (leaf_end m next key value)

-- a refusal changes nothing
pub leaf_stays : (m : Call) (a : List ℕ) (next : ℕ) (ver : Ver) (key v : List ℕ)
    → (built_number (leaf_built m (length a) next (length key) (length v)) ≡ 0 → ⊥) → leaf_arena m a next ver key v ≡ a
unfolding leaf_built leaf_arena
leaf_stays m a next ver key v =
    call_stays (leaf_rows m (length a) next (length key) (length v)) (leaf_at m next (length v)) (leaf_end m next (length key) (length v)) a (put a next (leaf_delta m next ver key v))

-- ---- an index delta

module _ (len next key : ℕ) where
  abbrev irows : List Row
  irows = index_rows len next key

  index_is : (n : ℕ) → once n irows ≡ true → Exactly (built_number (index_built len next key) ≡ n) (All (before n irows) × (asks n irows ≡ false))
  unfolding index_built
  index_is = call_exactly irows next (next + index_len key)

  pub index_2 : Exactly (built_number (index_built len next key) ≡ 2) (All (before 2 irows) × (next_ok len next ≡ false))
  index_2 = index_is 2 refl

  pub index_3 : Exactly (built_number (index_built len next key) ≡ 3) (All (before 3 irows) × (pair_ok key 0 ≡ false))
  index_3 = index_is 3 refl

  pub index_9 : Exactly (built_number (index_built len next key) ≡ 9) (All (before 9 irows) × (leb (next + index_len key) len ≡ false))
  index_9 = index_is 9 refl

  pub index_accepted : Exactly (built_number (index_built len next key) ≡ 0) (All irows)
  unfolding index_built
  index_accepted = call_accepted irows next (next + index_len key)

pub index_stays : (m : Call) (a : List ℕ) (next : ℕ) (key : List ℕ) (page : PageId)
    → (built_number (index_built (length a) next (length key)) ≡ 0 → ⊥) → index_arena m a next key page ≡ a
unfolding index_built index_arena
index_stays m a next key page = call_stays (index_rows (length a) next (length key)) next (next + index_len (length key)) a (put a next (index_frame m key page))
