-- The prefix of a page, as a part of the arena.
-- Assumes nothing.
use Rattle.std.specs.Prelude.{ℕ, ◌+◌, ◌*◌, List}
use Rattle.spans.specs.Span.{part_or}
use Rattle.frames.specs.declared.Body.{Body}
use Rattle.frames.specs.Layout.{base_len}

-- "base header, elems slots of u32, lo, hi, records"; "count of equal leading bytes of lo and hi": the first bytes of lo
unfoldable pub prefix_in : List ℕ → Body → List ℕ
prefix_in s b = part_or s (b.at + base_len + 4 * b.elems) b.prefix_len
