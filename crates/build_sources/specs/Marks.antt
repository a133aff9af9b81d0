-- What is known of a source's entries before anything is judged: their marks, their lengths, their widths, and the remotes that they keep.
-- Assumes nothing.
use Rattle.std.specs.Prelude.{ℕ, ◌^◌, ◌≤◌, ◌<◌, ◌≡◌, List, [], ◌∷◌, false, length, Some}
use Rattle.spans.specs.Span.{part}
use Rattle.order.specs.Order.{cmp_bytes, is_equal}
use Rattle.frames.specs.Layout.{addr, remote_at}
use Rattle.frames.specs.Limits.{max_key, max_value}
use Rattle.build_sources.specs.Source.{Entry}

-- each element has the property
unfoldable pub Each : {A : Type 0} → (A → Type 0) → List A → Type 0
Each P [] = Unit {0}
Each P (x ∷ xs) = P x × Each P xs

-- "The first version of each key is its head": an entry is old exactly where its key is that of the entry before
unfoldable pub MarkedFrom : Entry → List Entry → Type 0
MarkedFrom a [] = Unit {0}
MarkedFrom a (e ∷ es) = (e.old ≡ is_equal (cmp_bytes a.key e.key)) × MarkedFrom e es

unfoldable pub Marked : List Entry → Type 0
unfolding MarkedFrom
Marked [] = Unit {0}
Marked (e ∷ es) = (e.old ≡ false) × MarkedFrom e es

-- a remote frame at a holds these bytes
pub record Held (s : List ℕ) (a : ℕ) (v : List ℕ) : Type 0 where
  pub place : ℕ
  pub read : remote_at s (addr a) (length v) ≡ Some place
  pub bytes : part s place (length v) ≡ v

-- "key over 4,096, value over 65,536" is refused
pub record Short (e : Entry) : Type 0 where
  pub key : length e.key ≤ max_key
  pub val : length e.val ≤ max_value

-- its numbers have their widths: "txid u64, cmd u32", an address and a page id u64
pub record Wide (e : Entry) : Type 0 where
  pub txid : e.ver.txid < 256 ^ 8
  pub cmd : e.ver.cmd < 256 ^ 4
  pub kept : e.kept < 256 ^ 8
  pub page : e.page < 256 ^ 8

-- a remote that it keeps holds its value
unfoldable pub Keeps : List ℕ → Entry → Type 0
Keeps w e = (e.kept ≡ 0 → ⊥) → Held w e.kept e.val
