-- What merge answers and leaves, on every input: document 01's table first, then one store of one image.
-- Assumes nothing.
use Rattle.std.specs.Prelude.{ℕ, ◌+◌, List, ◌∷◌, Bool, true, false, cond, length, take, Result, Ok, Err}
use Rattle.spans.specs.Span.{put}
use Rattle.frames.specs.declared.Addr.{Addr}
use Rattle.frames.specs.declared.Refusal.{Refusal}
use Rattle.frames.specs.declared.Refusal.TheVariants.{BadLimit, BadArena, BadFrame, MixedKinds}
use Rattle.frames.specs.Layout.{addr}
use Rattle.pages.specs.Meaning.{meaning}
use Rattle.build_sources.specs.Source.{Entry}
use Rattle.build_image.specs.declared.Call.{Call}
use Rattle.build_image.specs.Image.{Borders, leaf_size, leaf_room, leaf_image, index_size, index_image}
use Rattle.build_totals.specs.Totals.{leaf_at}
use Rattle.build_image.specs.Call.{next_ok, limits_ok}
use Rattle.build_image.specs.Table.{Row, row, judged}
use Rattle.build_table.specs.Table.{entry_rows, apart_of}
use Rattle.build_table.specs.Index.{index_end}
use Rattle.build_table.specs.Leaf.{leaf_end}
use Rattle.merge.specs.declared.Kinds.{Kinds}
use Rattle.merge.specs.Merge.{kinds_of, bounds_in, meet_in, merged}

-- the kinds of the two pages below the next free address
abbrev pub kinds_in : List ℕ → Addr → Addr → Kinds
kinds_in w left right = kinds_of (meaning w left) (meaning w right)

-- 4 BAD FRAME: "an address is no frame's, a byte read is not as laid out, .. or a frame that a merge reads ends above the next free
-- address"; "Merge checks both pages first"
abbrev pub sound_ok : Kinds → Bool
sound_ok Kinds.Leaves = true
sound_ok Kinds.Indexes = true
sound_ok Kinds.Mixed = true
sound_ok Kinds.Bad = false

-- 5 MIXED KINDS: "merging leaf with index"
abbrev pub kinds_ok : Kinds → Bool
kinds_ok Kinds.Leaves = true
kinds_ok Kinds.Indexes = true
kinds_ok Kinds.Mixed = false
kinds_ok Kinds.Bad = false

abbrev pub are_indexes : Kinds → Bool
are_indexes Kinds.Leaves = false
are_indexes Kinds.Indexes = true
are_indexes Kinds.Mixed = false
are_indexes Kinds.Bad = false

-- what is built of these entries, by kind: the payload that 8 weighs, the end that 9 does, the page's address, the image
abbrev pub payload_by : Call → Borders → List Entry → Kinds → ℕ
payload_by m b es k = cond (are_indexes k) (index_size b es) (leaf_size m b es + leaf_room m es)

abbrev pub end_by : ℕ → Call → Borders → List Entry → Kinds → ℕ
end_by next m b es k = cond (are_indexes k) (index_end next m b es) (leaf_end next m b es)

abbrev pub place_by : ℕ → Call → List Entry → Kinds → ℕ
place_by next m es k = cond (are_indexes k) next (leaf_at m next es)

abbrev pub image_by : ℕ → Call → Borders → List Entry → Kinds → List ℕ
image_by next m b es k = cond (are_indexes k) (index_image m b es) (leaf_image m b next es)

-- 4, 5, then a build's numbers: "in a merge, records of both"; meets is 10's own question to a merge
abbrev pub kind_rows : ℕ → ℕ → Call → Bool → Borders → List Entry → Kinds → List Row
kind_rows len next m meets b es k =
    row (sound_ok k) BadFrame
    ∷ row (kinds_ok k) MixedKinds
    ∷ entry_rows meets b es (payload_by m b es k) (end_by next m b es k) len

-- what refuses pages that do not meet
abbrev pub apart_in : Borders → List Entry → Refusal
apart_in b es = apart_of (take b.prefix b.lo) es

-- a call whose rows are these: the page's address and the new next free address; the arena afterwards, one store of one image
abbrev pub answer_by : List Row → ℕ → Call → Borders → List Entry → Kinds → Result (Addr × ℕ) Refusal
answer_by rows next m b es k = judged rows Err (Ok (addr (place_by next m es k), end_by next m b es k))

abbrev pub arena_by : List Row → List ℕ → ℕ → Call → Borders → List Entry → Kinds → List ℕ
arena_by rows a next m b es k = judged rows (λ r. a) (put a next (image_by next m b es k))

-- the pages' part of the table
abbrev pub kinds_rows : List ℕ → ℕ → Call → Addr → Addr → List Row
kinds_rows a next m left right =
    kind_rows (length a) next m (meet_in (take next a) left right) (bounds_in (take next a) left right) (merged (take next a) left right) (kinds_in (take next a) left right)

unfoldable pub kinds_answer : List ℕ → ℕ → Call → Addr → Addr → Result (Addr × ℕ) Refusal
kinds_answer a next m left right =
    answer_by (kinds_rows a next m left right) next m (bounds_in (take next a) left right) (merged (take next a) left right) (kinds_in (take next a) left right)

unfoldable pub kinds_arena : List ℕ → ℕ → Call → Addr → Addr → List ℕ
kinds_arena a next m left right =
    arena_by (kinds_rows a next m left right) a next m (bounds_in (take next a) left right) (merged (take next a) left right) (kinds_in (take next a) left right)

-- the whole table: 1 (of index pages too), 2, 4, 5, 6, 7, 10, 8, 9
abbrev pub merge_rows : List ℕ → ℕ → Call → Addr → Addr → List Row
merge_rows a next m left right =
    row (limits_ok m.limit m.budget) BadLimit ∷ row (next_ok (length a) next) BadArena ∷ kinds_rows a next m left right

-- the answer: the page's address and the new next free address
unfoldable pub merge_answer : List ℕ → ℕ → Call → Addr → Addr → Result (Addr × ℕ) Refusal
merge_answer a next m left right =
    answer_by (merge_rows a next m left right) next m (bounds_in (take next a) left right) (merged (take next a) left right) (kinds_in (take next a) left right)

-- the arena afterwards: one store of one image, or nothing
unfoldable pub merge_arena : List ℕ → ℕ → Call → Addr → Addr → List ℕ
merge_arena a next m left right =
    arena_by (merge_rows a next m left right) a next m (bounds_in (take next a) left right) (merged (take next a) left right) (kinds_in (take next a) left right)
