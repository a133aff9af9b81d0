-- What a build of an index page answers and leaves, on its entries.
-- Assumes nothing.
use Rattle.std.specs.Prelude.{ℕ, ◌+◌, ◌*◌, ◌≤◌, ◌≡◌, List, true, cond, leb, length, Result, Ok, Err}
use Rattle.spans.specs.Span.{put}
use Rattle.frames.specs.declared.Refusal.TheVariants.{TooBig, NoRoom}
use Rattle.frames.specs.Layout.{addr, base_len, frame_len}
use Rattle.frames.specs.Limits.{max_key, max_size}
use Rattle.build_sources.specs.Source.{Entry}
use Rattle.build_sources.specs.Judged.{rising, prefixed}
use Rattle.build_image.specs.declared.Call.{Call}
use Rattle.build_image.specs.Prefix.{common}
use Rattle.build_image.specs.Image.{index_sums, index_size_at, index_size, index_image, Borders}
use Rattle.build_bounds.specs.declared.Boundaries.{Boundaries}
use Rattle.build_bounds.specs.Boundaries.{BothWithin, boundary_bytes}
use Rattle.build_image.specs.Table.{Row, judged}
use Rattle.build_table.specs.Table.{entry_rows}
use Rattle.frames.specs.declared.Addr.{Addr}
use Rattle.frames.specs.declared.Refusal.{Refusal}

-- "next plus all rounded frames"
unfoldable pub index_end : ℕ → Call → Borders → List Entry → ℕ
unfolding index_image
index_end next m b es = next + length (index_image m b es)

-- 6, 7, 10, 8, 9
abbrev pub index_rows : ℕ → ℕ → Call → Borders → List Entry → List Row
index_rows len next m b es = entry_rows true b es (index_size b es) (index_end next m b es) len

-- the answer: the page's address and the new next free address
unfoldable pub index_answer : List ℕ → ℕ → Call → Borders → List Entry → Result (Addr × ℕ) Refusal
unfolding rising prefixed index_size index_end
index_answer a next m b es = judged (index_rows (length a) next m b es) Err (Ok (addr next, index_end next m b es))

-- the arena afterwards: one store of one image, or nothing
unfoldable pub index_arena : List ℕ → ℕ → Call → Borders → List Entry → List ℕ
unfolding rising prefixed index_size index_end put index_image
index_arena a next m b es = judged (index_rows (length a) next m b es) (λ r. a) (put a next (index_image m b es))

-- ---- the same in the judge's numbers

unfoldable pub index_verdict : ℕ → ℕ → Borders → Boundaries → List Entry → Result (ℕ × ℕ) Refusal
unfolding rising prefixed index_sums
index_verdict len next b e es =
    let size = index_size_at e.lo.len e.hi.len e.prefix es in
    judged (entry_rows true b es size (next + frame_len size) len) Err (Ok (length es, size))

-- 8 and 9 on the count of the entries and the size of their records; x and y are the lengths of the boundaries
unfoldable pub index_weighed : ℕ → ℕ → ℕ → ℕ → ℕ → ℕ → Result (ℕ × ℕ) Refusal
index_weighed len next x y n sums =
    let size = base_len + 4 * n + x + y + sums in
    cond (leb size max_size) (cond (leb (next + frame_len size) len) (Ok (n, size)) (Err NoRoom)) (Err TooBig)

-- what a judge is told of the boundaries: they lie in their slices, the prefix is what they have in common, and they are no longer than a key
pub record Held (lo hi w : List ℕ) (e : Boundaries) : Type 0 where
  pub inside : BothWithin lo hi w e
  pub front : e.prefix ≡ common (boundary_bytes lo w e.lo) (boundary_bytes hi w e.hi)
  pub footing : e.lo.len ≤ max_key
  pub high : e.hi.len ≤ max_key
