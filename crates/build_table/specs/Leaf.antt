-- What a build of a leaf answers and leaves, on its entries.
-- Assumes nothing.
use Rattle.std.specs.Prelude.{ℕ, ◌+◌, ◌*◌, List, true, cond, leb, length, Result, Ok, Err}
use Rattle.spans.specs.Span.{put}
use Rattle.frames.specs.declared.Refusal.TheVariants.{TooBig, NoRoom}
use Rattle.frames.specs.Layout.{addr, base_len, frame_len}
use Rattle.frames.specs.Limits.{max_size}
use Rattle.build_sources.specs.Source.{Entry}
use Rattle.build_sources.specs.Judged.{rising, prefixed}
use Rattle.build_image.specs.declared.Call.{Call}
use Rattle.build_image.specs.Image.{Borders, leaf_size, leaf_room, leaf_image}
use Rattle.build_image.specs.Sizes.{room_of}
use Rattle.build_sweep.specs.declared.Tally.{Tally}
use Rattle.build_sweep.specs.declared.Pages.{Pages}
use Rattle.build_totals.specs.Totals.{leaf_at, totals_of}
use Rattle.build_image.specs.Table.{Row, judged}
use Rattle.build_table.specs.Table.{entry_rows}
use Rattle.build_totals.specs.declared.Totals.{Totals}
use Rattle.frames.specs.declared.Addr.{Addr}
use Rattle.frames.specs.declared.Refusal.{Refusal}

-- "next plus all rounded frames"
unfoldable pub leaf_end : ℕ → Call → Borders → List Entry → ℕ
unfolding leaf_image
leaf_end next m b es = next + length (leaf_image m b next es)

-- 6, 7, 10, 8, 9
abbrev pub leaf_rows : ℕ → ℕ → Call → Borders → List Entry → List Row
leaf_rows len next m b es = entry_rows true b es (leaf_size m b es + leaf_room m es) (leaf_end next m b es) len

-- the answer: the leaf's address, behind its history pages, and the new next free address
unfoldable pub leaf_answer : List ℕ → ℕ → Call → Borders → List Entry → Result (Addr × ℕ) Refusal
unfolding rising prefixed leaf_size leaf_room leaf_end leaf_at
leaf_answer a next m b es = judged (leaf_rows (length a) next m b es) Err (Ok (addr (leaf_at m next es), leaf_end next m b es))

-- the arena afterwards: one store of one image, or nothing
unfoldable pub leaf_arena : List ℕ → ℕ → Call → Borders → List Entry → List ℕ
unfolding rising prefixed leaf_size leaf_room leaf_end put leaf_image
leaf_arena a next m b es = judged (leaf_rows (length a) next m b es) (λ r. a) (put a next (leaf_image m b next es))

-- ---- the judge

-- what the judge of a leaf finds
unfoldable pub leaf_verdict : ℕ → ℕ → Call → Borders → List Entry → Result Totals Refusal
unfolding rising prefixed leaf_size leaf_room leaf_end totals_of
leaf_verdict len next m b es = judged (leaf_rows len next m b es) Err (Ok (totals_of m b next es))

-- 8 and 9 on what the entries sum up to; x and y are the lengths of the boundaries
unfoldable pub weighed : ℕ → ℕ → ℕ → Tally → Pages → Result Totals Refusal
unfolding room_of
weighed len x y t g =
    let size = base_len + 4 * t.heads + x + y + t.sums in
    let room = room_of g.count t.counted in
    let end = g.end + frame_len (size + room) + t.remote in
    cond (leb (size + room) max_size)
    (cond (leb end len)
    (Ok
    (record { heads = t.heads; olds = t.olds; pages = g.count; remotes = t.remotes; aged = t.aged; size = size; room = room; leaf = g.end; end = end }))
    (Err NoRoom))
    (Err TooBig)
