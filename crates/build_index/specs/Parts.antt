-- An index page's parts as its passes write them.
-- Assumes nothing.
use Rattle.std.specs.Prelude.{ℕ, ◌+◌, ◌≤◌, ◌≡◌, List, ◌++◌, length, take, drop}
use Rattle.numbers.specs.Number.{le}
use Rattle.frames.specs.Layout.{node_index, frame_len}
use Rattle.frames.specs.Stored.{page_bytes, base_of}
use Rattle.frames.specs.Limits.{max_entries, max_size}
use Rattle.values.specs.Keys.{index_key}
use Rattle.build_sources.specs.Source.{Entry}
use Rattle.build_image.specs.declared.Call.{Call}
use Rattle.build_image.specs.Image.{page_box, index_size}
use Rattle.build_heads.specs.Steps.{Long}
use Rattle.build_bounds.specs.declared.Boundaries.{Boundaries}
use Rattle.build_bounds.specs.Boundaries.{bounds_of, BothWithin}

-- one record: the rest of a key, and a page id
abbrev pub rec_of : List ℕ → ℕ → List ℕ
rec_of rest page = index_key rest ++ le 8 page

unfoldable pub index_rec : ℕ → Entry → List ℕ
index_rec p e = rec_of (drop p e.key) e.page

-- both headers
unfoldable pub index_head : Call → ℕ → ℕ → ℕ → ℕ → ℕ → ℕ → List ℕ
index_head m n size sibling lo hi prefix = page_bytes (page_box m size node_index 0 0) (base_of size n sibling lo hi prefix 1 0)

-- what the writing rests on: the judge's numbers, and that they fit
pub record Ready (a : List ℕ) (footing at : ℕ) (lo hi : List ℕ) (e : Boundaries) (es : List Entry) (n size : ℕ) : Type 0 where
  pub over : footing ≤ at
  pub inside : BothWithin lo hi (take footing a) e
  pub long : Long e.prefix es
  pub shared : e.prefix ≤ e.lo.len
  pub count : n ≡ length es
  pub few : n ≤ max_entries
  pub whole : size ≡ index_size (bounds_of lo hi (take footing a) e) es
  pub small : size ≤ max_size
  pub room : at + frame_len size ≤ length a
