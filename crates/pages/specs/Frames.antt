-- The soundness of one frame, of any kind.
-- Assumes nothing.
use Rattle.std.specs.Prelude.{ℕ, ◌+◌, ◌-◌, List, Bool, true, false, ◌&&◌, cond, take, leb, eqb, Option, Some, None}
use Rattle.frames.specs.declared.Addr.{Addr}
use Rattle.frames.specs.Layout.{box_base, box_delta, node_leaf, box_at, open_at, remote_at, delta_at}
use Rattle.frames.specs.Limits.{max_key}
use Rattle.values.specs.Keys.{key_at}
use Rattle.values.specs.Vals.{val_at}
use Rattle.records.specs.Records.{val_of}
use Rattle.pages.specs.Sound.{slots_ok}
use Rattle.pages.specs.Meaning.{sound_body}
use Rattle.frames.specs.declared.Body.{Body}
use Rattle.frames.specs.declared.BoxHeader.{BoxHeader}
use Rattle.frames.specs.declared.Delta.{Delta}
use Rattle.records.specs.declared.ValParts.{ValParts}
use Rattle.values.specs.declared.KeyParts.{KeyParts}

-- a leaf or index page; a history page, all its slots
abbrev pub page_ok : List ℕ → Option Body → Bool
page_ok s (Some b) = cond (eqb b.kind 2) (slots_ok s b) (sound_body s b)
page_ok s None = false

-- "Remote frame payload: size u64, bytes", "exactly 8 + size"
abbrev pub is_at : Option ℕ → Bool
is_at (Some p) = true
is_at None = false

-- "Delta payload: .. key, value", "with key and value filling them"; "A delta key drops no prefix"
abbrev pub key_fills : ℕ → Option KeyParts → Bool
key_fills end (Some k) = leb k.rest_len max_key && eqb (k.rest_at + k.rest_len) end
key_fills end None = false

abbrev pub val_fills : ℕ → Option ValParts → Bool
val_fills end (Some v) = eqb v.next end
val_fills end None = false

abbrev pub delta_ok : List ℕ → Option Delta → Bool
delta_ok s (Some d) =
    key_fills d.val_at (key_at (take d.val_at s) d.key_at (d.node_type - node_leaf))
    && cond (eqb d.node_type node_leaf) (val_fills d.end (val_of s (val_at (take d.end s) d.val_at false))) (eqb (d.val_at + 8) d.end)
delta_ok s None = false

abbrev pub frame_of : List ℕ → Addr → Option BoxHeader → Bool
frame_of s a (Some h) =
    cond (eqb h.box_kind box_base) (page_ok s (open_at s a)) (cond (eqb h.box_kind box_delta) (delta_ok s (delta_at s a)) (leb 8 h.payload_size && is_at (remote_at s a (h.payload_size - 8))))
frame_of s a None = false

-- the frame at an address is sound
unfoldable pub frame_ok : List ℕ → Addr → Bool
frame_ok s a = frame_of s a (box_at s a)
