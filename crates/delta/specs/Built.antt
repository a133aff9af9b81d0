-- What a delta's call answers and leaves, on every input: document 01's table first, then one store.
-- Assumes nothing.
use Rattle.std.specs.Prelude.{ℕ, ◌+◌, List, [], ◌∷◌, Bool, ◌&&◌, cond, length, leb, Result, Ok, Err}
use Rattle.spans.specs.Span.{put}
use Rattle.order.specs.declared.Ver.{Ver}
use Rattle.frames.specs.declared.PageId.{PageId}
use Rattle.frames.specs.declared.Refusal.TheVariants.{BadLimit, BadArena, BadList, NoRoom}
use Rattle.frames.specs.Layout.{addr}
use Rattle.frames.specs.Limits.{max_key, max_value}
use Rattle.build_image.specs.declared.Call.{Call}
use Rattle.build_image.specs.Sizes.{remote_len}
use Rattle.build_image.specs.Call.{limit_ok, next_ok}
use Rattle.build_image.specs.Table.{Row, row, judged}
use Rattle.delta.specs.Deltas.{leaf_len, index_len, leaf_delta, index_frame}
use Rattle.frames.specs.declared.Addr.{Addr}
use Rattle.frames.specs.declared.Refusal.{Refusal}

-- 3 "A delta's key and value over their limits are 3": "key over 4,096, value over 65,536"
unfoldable pub pair_ok : ℕ → ℕ → Bool
pair_ok key value = leb key max_key && leb value max_value

-- 2, 3, and 9 "next plus all rounded frames exceeds the arena" (end, len)
abbrev pub delta_rows : ℕ → ℕ → ℕ → ℕ → ℕ → List Row
delta_rows len next key value end =
    row (next_ok len next) BadArena
    ∷ row (pair_ok key value) BadList
    ∷ row (leb end len) NoRoom
    ∷ []

-- ---- a leaf delta: 1, 2, 3, 9

-- where it stands, behind its remote frame, and where it ends
abbrev pub leaf_at : Call → ℕ → ℕ → ℕ
leaf_at m next value = next + remote_len m.limit value 0

abbrev pub leaf_end : Call → ℕ → ℕ → ℕ → ℕ
leaf_end m next key value = leaf_at m next value + leaf_len m.limit key value

abbrev pub leaf_rows : Call → ℕ → ℕ → ℕ → ℕ → List Row
leaf_rows m len next key value = row (limit_ok m.limit) BadLimit ∷ delta_rows len next key value (leaf_end m next key value)

-- the answer: the delta's address and the new next free address
unfoldable pub leaf_built : Call → ℕ → ℕ → ℕ → ℕ → Result (Addr × ℕ) Refusal
unfolding pair_ok
leaf_built m len next key value = judged (leaf_rows m len next key value) Err (Ok (addr (leaf_at m next value), leaf_end m next key value))

-- the arena afterwards: one store, or nothing
unfoldable pub leaf_arena : Call → List ℕ → ℕ → Ver → List ℕ → List ℕ → List ℕ
unfolding pair_ok put leaf_delta
leaf_arena m a next ver key v = judged (leaf_rows m (length a) next (length key) (length v)) (λ r. a) (put a next (leaf_delta m next ver key v))

-- ---- an index delta: 2, 3, 9

abbrev pub index_rows : ℕ → ℕ → ℕ → List Row
index_rows len next key = delta_rows len next key 0 (next + index_len key)

unfoldable pub index_built : ℕ → ℕ → ℕ → Result (Addr × ℕ) Refusal
unfolding pair_ok
index_built len next key = judged (index_rows len next key) Err (Ok (addr next, next + index_len key))

unfoldable pub index_arena : Call → List ℕ → ℕ → List ℕ → PageId → List ℕ
unfolding pair_ok put index_frame
index_arena m a next key page = judged (index_rows (length a) next (length key)) (λ r. a) (put a next (index_frame m key page))

-- ---- the clerk's part

-- a delta's address, 0 where there is no room
unfoldable pub address_or : ℕ → ℕ → ℕ → ℕ → ℕ
address_or next len remote n = cond (leb (next + remote + n) len) (next + remote) 0
