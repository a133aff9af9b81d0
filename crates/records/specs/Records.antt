-- A record at a slot: key, value, history reference, remote. One decoder for leaf (0), index (1) and history (2) pages.
-- Assumes nothing.
use Rattle.std.specs.Prelude.{ℕ, ◌+◌, ◌-◌, ◌*◌, ◌≤◌, ◌≡◌, List, ◌⊎◌, cond, length, take, ltb, leb, eqb, Option, Some, None}
use Rattle.numbers.specs.Number.{le_at}
use Rattle.frames.specs.declared.Addr.{Addr}
use Rattle.frames.specs.declared.Body.{Body}
use Rattle.frames.specs.Layout.{base_len, remote_at, null_addr}
use Rattle.frames.specs.Limits.{max_key}
use Rattle.values.specs.declared.HistRef.{HistRef}
use Rattle.values.specs.Keys.{skip_of, key_at, key_parts}
use Rattle.values.specs.Vals.{no_hist, val_at}
use Rattle.records.specs.declared.Rec.{Rec}
use Rattle.records.specs.declared.ChildParts.{ChildParts}
use Rattle.records.specs.declared.ValParts.{ValParts}
use Rattle.values.specs.declared.KeyParts.{KeyParts}
use Rattle.values.specs.declared.Val.{Val}

-- "elems slots of u32 (record offset from the base header)"
abbrev pub place_of : List ℕ → Body → ℕ → ℕ
place_of s b i = b.at + le_at 4 s (b.at + base_len + 4 * i)

-- "A slot points at or behind the end of hi, and below size"; "a position is outside the page" is 4
unfoldable pub slot_at : List ℕ → Body → ℕ → Option ℕ
slot_at s b i =
    cond (ltb i b.elems)
    (cond (leb b.first (place_of s b i))
    (cond (ltb (place_of s b i) b.end) (Some (place_of s b i)) None)
    None)
    None

-- the key at a place of the page, "whole key at most 4,096"
abbrev pub key_whole : Body → Option KeyParts → Option KeyParts
key_whole b (Some k) = cond (leb (b.prefix_len + k.rest_len) max_key) (Some k) None
key_whole b None = None

unfoldable pub key_in : List ℕ → Body → ℕ → Option KeyParts
key_in s b at = key_whole b (key_at (take b.end s) at b.kind)

-- the key of slot i
abbrev pub key_slot : List ℕ → Body → Option ℕ → Option KeyParts
key_slot s b (Some p) = key_in s b p
key_slot s b None = None

unfoldable pub key_at_slot : List ℕ → Body → ℕ → Option KeyParts
key_at_slot s b i = key_slot s b (slot_at s b i)

-- a value's places: its history, where its bytes stand and how many, its remote frame or none, and the place behind
abbrev pub val_parts : HistRef → ℕ → ℕ → Addr → ℕ → ValParts
val_parts h p n a next = record { hist = h; val_at = p; val_len = n; remote = a; next = next }

-- the value at a place of the page: "history (heads only)", "remotes resolve (.. remote size equal)"
abbrev pub remote_of : HistRef → Addr → ℕ → ℕ → Option ℕ → Option ValParts
remote_of h a n next (Some p) = Some (val_parts h p n a next)
remote_of h a n next None = None

abbrev pub val_of : List ℕ → Option Val → Option ValParts
val_of s (Some (Val.Inline h p n next)) = Some (val_parts h p n null_addr next)
val_of s (Some (Val.Remote h a n next)) = remote_of h a n next (remote_at s a n)
val_of s None = None

unfoldable pub val_in : List ℕ → Body → ℕ → Option ValParts
val_in s b at = val_of s (val_at (take b.end s) at (eqb b.kind 0))

-- a record: a key and a value; "Index key: length, key; its value is a page id u64"
abbrev pub rec_of : ℕ → ℕ → ℕ → ℕ → HistRef → ℕ → ℕ → Addr → ℕ → Rec
rec_of p v ra rn h va vn rem next =
    record { from = p; ver_at = v; rest_at = ra; rest_len = rn; hist = h; val_at = va; val_len = vn; remote = rem; next = next }

abbrev pub rec_val : ℕ → ℕ → ℕ → ℕ → Option ValParts → Option Rec
rec_val p v ra rn (Some v') = Some (rec_of p v ra rn v'.hist v'.val_at v'.val_len v'.remote v'.next)
rec_val p v ra rn None = None

abbrev pub rec_key : List ℕ → Body → ℕ → Option KeyParts → Option Rec
rec_key s b p (Some k) =
    cond (eqb b.kind 1)
    (cond (leb (k.rest_at + k.rest_len + 8) b.end) (Some (rec_of p k.ver_at k.rest_at k.rest_len no_hist (k.rest_at + k.rest_len) 8 null_addr (k.rest_at + k.rest_len + 8))) None)
    (rec_val p k.ver_at k.rest_at k.rest_len (val_in s b (k.rest_at + k.rest_len)))
rec_key s b p None = None

unfoldable pub rec_in : List ℕ → Body → ℕ → Option Rec
rec_in s b p = rec_key s b p (key_in s b p)

-- the record of slot i
abbrev pub rec_slot : List ℕ → Body → Option ℕ → Option Rec
rec_slot s b (Some p) = rec_in s b p
rec_slot s b None = None

unfoldable pub rec_at : List ℕ → Body → ℕ → Option Rec
rec_at s b i = rec_slot s b (slot_at s b i)

-- a child, by its key: its page id stands behind it
abbrev pub child_of : Option ChildParts → Option Rec
child_of (Some x) = Some (rec_of x.from x.ver_at x.rest_at x.rest_len no_hist (x.rest_at + x.rest_len) 8 null_addr (x.rest_at + x.rest_len + 8))
child_of None = None

-- a short way's answer: what the decoder answers, or none, which says nothing
abbrev pub Quickly : {A : Type 0} → A → A → A → Type 0
Quickly none r x = (r ≡ none) ⊎ (r ≡ x)

-- n is the length byte of a leaf's key, version included, and the key can be read
pub record ShortKey (s : List ℕ) (b : Body) (p n : ℕ) : Type 0 where
  pub key : key_in s b p ≡ Some (key_parts (p + 1) (p + 1 + 12) (n - 12))
  pub inside : p + 1 + n ≤ b.end
  pub long : 12 ≤ n
  pub short : n ≤ 127

-- what a record that was read tells of its places
pub record RecInside (s : List ℕ) (b : Body) (r : Rec) : Type 0 where
  pub ver : r.ver_at + skip_of b.kind ≡ r.rest_at
  pub rest : r.rest_at + r.rest_len ≤ b.end
  pub val : r.val_at + r.val_len ≤ length s
  pub next : r.next ≤ b.end
