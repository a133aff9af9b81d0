-- A key in two parts: a page's prefix, empty in a list, and the rest; and the slice that they lie in.
-- Assumes nothing.
use Rattle.std.specs.Prelude.{ℕ, List, ◌++◌, Bool, cond}
use Rattle.spans.specs.Span.{part_or}
use Rattle.build_sources.specs.declared.Key.{Key}

-- the whole key; a place outside the slice gives the empty part
unfoldable pub key_bytes : List ℕ → Key → List ℕ
key_bytes s k = part_or s k.pat k.plen ++ part_or s k.kat k.klen

-- the arena below the next free address, w, or the lent slice, l
abbrev pub src_of : List ℕ → List ℕ → Bool → List ℕ
src_of l w b = cond b w l
