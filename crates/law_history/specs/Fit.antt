-- What a build knows of its call and its entries before it writes: the hypotheses of the laws.
-- Assumes nothing.
use Rattle.std.specs.Prelude.{ℕ, ◌%◌, ◌^◌, ◌≤◌, ◌<◌, ◌≡◌, List, length}
use Rattle.frames.specs.Limits.{max_budget, max_key, max_limit}
use Rattle.build_sources.specs.Source.{Entry}
use Rattle.build_sources.specs.Marks.{Short, Wide, Keeps}
use Rattle.build_image.specs.declared.Call.{Call}
use Rattle.build_image.specs.Image.{Borders}

-- an entry: its lengths are document 01's, its numbers have their widths, and a remote that it keeps holds its value
pub record Fits (s : List ℕ) (e : Entry) : Type 0 where
  pub short : Short e
  pub wide : Wide e
  pub keeps : Keeps s e

-- the numbers of the call's headers have their widths
pub record Numbers (m : Call) : Type 0 where
  pub group : m.group < 256
  pub txid : m.txid < 256 ^ 8
  pub lsn : m.lsn < 256 ^ 8

-- "inline limit .. 1..65,536; budget .. 256..131,072"
pub record CallFits (m : Call) : Type 0 where
  pub limit : m.limit ≤ max_limit
  pub budget : m.budget ≤ max_budget
  pub numbers : Numbers m

-- "lo or hi over 4,096" is refused; "prefix_len is at most lo_len"
pub record BoundsFit (b : Borders) : Type 0 where
  pub lo : length b.lo ≤ max_key
  pub hi : length b.hi ≤ max_key
  pub prefix : b.prefix ≤ length b.lo
  pub sibling : b.sibling < 256 ^ 8

-- "An address is a frame's offset, a multiple of 8, at least 8"; an arena's length is a u64
pub record Address (s : List ℕ) (at : ℕ) : Type 0 where
  pub above : 8 ≤ at
  pub even : at % 8 ≡ 0
  pub word : length s < 256 ^ 8
