-- What new_leaf and new_intl answer and leave, on every input: document 01's table first, then one store of one image.
-- Assumes nothing.
use Rattle.std.specs.Prelude.{ℕ, List, [], ◌∷◌, Bool, true, false, ◌&&◌, length, take, leb, eqb, Result, Ok, Err}
use Rattle.spans.specs.Span.{put}
use Rattle.frames.specs.declared.Refusal.{Refusal}
use Rattle.frames.specs.declared.Refusal.TheVariants.{BadLimit, BadArena, BadList}
use Rattle.frames.specs.Layout.{addr}
use Rattle.build_sources.specs.Lists.{begun_of, first_of}
use Rattle.build_sources.specs.Source.{Entry, entries, well_formed}
use Rattle.build_sources.specs.Judged.{rising, prefixed}
use Rattle.build_image.specs.declared.Call.{Call}
use Rattle.build_image.specs.Prefix.{common}
use Rattle.build_image.specs.Image.{Borders, leaf_size, leaf_room, leaf_image, index_size, index_image}
use Rattle.build_totals.specs.Totals.{leaf_at}
use Rattle.build_image.specs.Call.{next_ok}
use Rattle.build_image.specs.Table.{Row, row, judged}
use Rattle.build_table.specs.Table.{bounds_ok, leaf_limits, list_ok, entry_rows}
use Rattle.build_table.specs.Index.{index_end, index_rows}
use Rattle.build_table.specs.Leaf.{leaf_end, leaf_rows}
use Rattle.frames.specs.declared.Addr.{Addr}

-- "Prefix length: count of equal leading bytes of lo and hi"
abbrev pub bounds_from : List ℕ → List ℕ → ℕ → Borders
bounds_from lo hi sibling = record { lo = lo; hi = hi; prefix = common lo hi; sibling = sibling }

-- the entries of a list: 0 a record list, 1 an index list; w is what lies below the next free address
abbrev pub listed : List ℕ → List ℕ → ℕ → List Entry
listed l w source = entries l w (first_of source)

-- 1, 2, 3 (limits is what number 1 asks of the call), then the numbers of the entries
abbrev pub list_rows : Bool → List ℕ → ℕ → List ℕ → ℕ → List Row → List Row
list_rows limits a next l source rows =
    row limits BadLimit
    ∷ row (next_ok (length a) next) BadArena
    ∷ row (list_ok l (take next a) source) BadList
    ∷ rows

-- ---- new_intl

abbrev pub new_index_rows : List ℕ → ℕ → List ℕ → Call → Borders → List Row
new_index_rows a next l m b = list_rows (bounds_ok b.lo b.hi) a next l 1 (index_rows (length a) next m b (listed l (take next a) 1))

unfoldable pub new_index_answer : List ℕ → ℕ → List ℕ → Call → Borders → Result (Addr × ℕ) Refusal
unfolding begun_of well_formed entries rising prefixed index_size index_end
new_index_answer a next l m b = judged (new_index_rows a next l m b) Err (Ok (addr next, index_end next m b (listed l (take next a) 1)))

unfoldable pub new_index_arena : List ℕ → ℕ → List ℕ → Call → Borders → List ℕ
unfolding begun_of well_formed entries rising prefixed index_size index_end put index_image
new_index_arena a next l m b = judged (new_index_rows a next l m b) (λ r. a) (put a next (index_image m b (listed l (take next a) 1)))

-- ---- new_leaf

abbrev pub new_rows : List ℕ → ℕ → List ℕ → Call → Borders → List Row
new_rows a next l m b =
    list_rows (leaf_limits m.limit m.budget b.lo b.hi) a next l 0 (leaf_rows (length a) next m b (listed l (take next a) 0))

unfoldable pub new_answer : List ℕ → ℕ → List ℕ → Call → Borders → Result (Addr × ℕ) Refusal
unfolding begun_of well_formed entries rising prefixed leaf_size leaf_room leaf_end leaf_at
new_answer a next l m b = judged (new_rows a next l m b) Err (Ok (addr (leaf_at m next (listed l (take next a) 0)), leaf_end next m b (listed l (take next a) 0)))

unfoldable pub new_arena : List ℕ → ℕ → List ℕ → Call → Borders → List ℕ
unfolding begun_of well_formed entries rising prefixed leaf_size leaf_room leaf_end put leaf_image
new_arena a next l m b = judged (new_rows a next l m b) (λ r. a) (put a next (leaf_image m b next (listed l (take next a) 0)))
