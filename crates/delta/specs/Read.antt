-- A delta's readers on any buffer and any address: "Delta payload: klen u32, vlen u32, key, value", "with key and value filling them".
-- What is not as laid out is 4.
-- Assumes nothing.
use Rattle.std.specs.Prelude.{ℕ, ◌+◌, List, false, cond, take, eqb, Option, Some, None, Result, Ok, Err}
use Rattle.numbers.specs.Number.{le_at}
use Rattle.frames.specs.declared.Addr.{Addr}
use Rattle.frames.specs.declared.Delta.{Delta}
use Rattle.frames.specs.declared.Refusal.{Refusal}
use Rattle.frames.specs.Layout.{node_leaf, node_index, page_id, delta_at, addr}
use Rattle.values.specs.Keys.{key_at, ver_in}
use Rattle.values.specs.Vals.{val_at, no_hist}
use Rattle.records.specs.Records.{val_of, val_parts}
use Rattle.pages.specs.Boundaries.{place}
use Rattle.pages.specs.Frames.{key_fills, val_fills}
use Rattle.delta.specs.declared.LeafKey.{LeafKey}
use Rattle.frames.specs.declared.PageId.{PageId}
use Rattle.order.specs.declared.Ver.{Ver}
use Rattle.pages.specs.declared.Place.{Place}
use Rattle.records.specs.declared.ValParts.{ValParts}
use Rattle.values.specs.declared.KeyParts.{KeyParts}

-- the delta at an address whose node_type is the wanted one
abbrev pub typed : ℕ → Option Delta → Option Delta
typed node (Some d) = cond (eqb d.node_type node) (Some d) None
typed node None = None

unfoldable pub delta_is : List ℕ → Addr → ℕ → Option Delta
delta_is s a node = typed node (delta_at s a)

-- ---- keys: kind 0 leaf, 1 index

-- "A delta key drops no prefix"; "whole key at most 4,096"; it fills klen
abbrev pub key_to : ℕ → Option KeyParts → Option KeyParts
key_to end k = cond (key_fills end k) k None

unfoldable pub key_in : List ℕ → Delta → ℕ → Option KeyParts
key_in s d kind = key_to d.val_at (key_at (take d.val_at s) d.key_at kind)

abbrev pub key_of : List ℕ → ℕ → Option Delta → Option KeyParts
key_of s kind (Some d) = key_in s d kind
key_of s kind None = None

-- a version, and where its key stands
abbrev pub keyed : Ver → Place → LeafKey
keyed v p = record { ver = v; key = p }

abbrev pub leaf_key_of : List ℕ → Option KeyParts → Result LeafKey Refusal
leaf_key_of s (Some k) = Ok (keyed (ver_in s k.ver_at) (place k.rest_at k.rest_len))
leaf_key_of s None = Err Refusal.BadFrame

unfoldable pub leaf_key_at : List ℕ → Addr → Result LeafKey Refusal
leaf_key_at s a = leaf_key_of s (key_of s 0 (delta_is s a node_leaf))

abbrev pub index_key_of : Option KeyParts → Result Place Refusal
index_key_of (Some k) = Ok (place k.rest_at k.rest_len)
index_key_of None = Err Refusal.BadFrame

unfoldable pub index_key_at : List ℕ → Addr → Result Place Refusal
index_key_at s a = index_key_of (key_of s 1 (delta_is s a node_index))

-- ---- values

-- a value without history that fills vlen; "A remote resolves in its own buffer"
abbrev pub place_of : Option ValParts → Result Place Refusal
place_of (Some v) = Ok (place v.val_at v.val_len)
place_of None = Err Refusal.BadFrame

abbrev pub val_to : ℕ → Option ValParts → Result Place Refusal
val_to end v = cond (val_fills end v) (place_of v) (Err Refusal.BadFrame)

abbrev pub value_to : ℕ → ℕ → ℕ → ℕ → Result Place Refusal
value_to p n next end = val_to end (Some (val_parts no_hist p n (addr 0) next))

unfoldable pub val_in : List ℕ → Delta → Result Place Refusal
val_in s d = val_to d.end (val_of s (val_at (take d.end s) d.val_at false))

abbrev pub value_of : List ℕ → Option Delta → Result Place Refusal
value_of s (Some d) = val_in s d
value_of s None = Err Refusal.BadFrame

unfoldable pub value_at : List ℕ → Addr → Result Place Refusal
value_at s a = value_of s (delta_is s a node_leaf)

-- "its value is a page id u64"
abbrev pub child_of : List ℕ → Option Delta → Result PageId Refusal
child_of s (Some d) = cond (eqb d.end (d.val_at + 8)) (Ok (page_id (le_at 8 s d.val_at))) (Err Refusal.BadFrame)
child_of s None = Err Refusal.BadFrame

unfoldable pub child_at : List ℕ → Addr → Result PageId Refusal
child_at s a = child_of s (delta_is s a node_index)
