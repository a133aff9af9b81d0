-- Versions and keys as a page holds them, written and read.
-- Assumes nothing.
use Rattle.std.specs.Prelude.{ℕ, ◌+◌, ◌-◌, List, ◌++◌, cond, length, leb, eqb, Option, Some, None}
use Rattle.numbers.specs.Number.{le, le_at}
use Rattle.lengths.specs.Leb128.{uleb, read_len}
use Rattle.order.specs.declared.Ver.{Ver}
use Rattle.order.specs.Version.{ver_of}
use Rattle.values.specs.declared.KeyParts.{KeyParts}

-- Version, 12: txid u64, cmd u32
unfoldable pub ver_bytes : Ver → List ℕ
ver_bytes v = le 8 v.txid ++ le 4 v.cmd

unfoldable pub ver_in : List ℕ → ℕ → Ver
ver_in s at = ver_of (le_at 8 s at) (le_at 4 s (at + 8))

-- Leaf key: length of version and rest, version, rest. Index key: length, rest. History key: version only
unfoldable pub leaf_front : Ver → ℕ → List ℕ
unfolding ver_bytes
leaf_front v n = uleb (12 + n) ++ ver_bytes v

unfoldable pub leaf_key : Ver → List ℕ → List ℕ
unfolding leaf_front
leaf_key v rest = leaf_front v (length rest) ++ rest

unfoldable pub index_key : List ℕ → List ℕ
index_key rest = uleb (length rest) ++ rest

-- their sizes, for a rest of n bytes
unfoldable pub leaf_key_size : ℕ → ℕ
leaf_key_size n = length (uleb (12 + n)) + (12 + n)

unfoldable pub index_key_size : ℕ → ℕ
index_key_size n = length (uleb n) + n

-- how many bytes of version a key's length counts: kind 1 is an index page, 0 a leaf, 2 a history page
unfoldable pub skip_of : ℕ → ℕ
skip_of kind = cond (eqb kind 1) 0 12

-- a key's places: its version's, its rest's, and how long that is
abbrev pub key_parts : ℕ → ℕ → ℕ → KeyParts
key_parts v r n = record { ver_at = v; rest_at = r; rest_len = n }

-- a length, and as many bytes behind it
abbrev pub key_of : List ℕ → ℕ → Option (ℕ × ℕ) → Option KeyParts
key_of s kind (Some (n, next)) =
    cond (leb (skip_of kind) n)
    (cond (leb (next + n) (length s)) (Some (key_parts next (next + skip_of kind) (n - skip_of kind))) None)
    None
key_of s kind None = None

unfoldable pub key_at : List ℕ → ℕ → ℕ → Option KeyParts
key_at s at kind =
    cond (eqb kind 2)
    (cond (leb (at + 12) (length s)) (Some (key_parts at (at + 12) 0)) None)
    (key_of s kind (read_len s at))
