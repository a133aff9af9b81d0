-- An entry of a list by its two lengths, and what it is beside the entry before: a head, an old version, or none that may stand there.
-- Assumes nothing.
use Rattle.std.specs.Prelude.{ℕ, ◌+◌, List, Bool, cond, length, leb, Option, Some, None}
use Rattle.spans.specs.Span.{part_or}
use Rattle.numbers.specs.Number.{be_at}
use Rattle.order.specs.declared.Ver.{Ver}
use Rattle.order.specs.Order.{cmp_bytes}
use Rattle.order.specs.Version.{ver_of, newer_than}
use Rattle.frames.specs.Limits.{max_key, max_value}
use Rattle.build_sources.specs.declared.Cursor.{Cursor}
use Rattle.build_sources.specs.Lists.{record_item, index_item}
use Rattle.build_sweep.specs.declared.Way.{Way}
use Rattle.build_sources.specs.declared.EntryAt.{EntryAt}
use Rattle.std.specs.declared.cmp.Ordering.{Ordering}

-- the tests of `record_at`, in its order
unfoldable pub ent_at : List ℕ → ℕ → Option (ℕ × ℕ)
ent_at s at =
    let k = be_at 2 s at in
    let v = be_at 4 s (at + 2 + k + 12) in
    cond (leb (at + 2) (length s))
    (cond (leb k max_key)
    (cond (leb (at + 2 + (k + 16)) (length s)) (cond (leb v max_value) (cond (leb (at + 2 + k + 16 + v) (length s)) (Some (k, v)) None) None) None)
    None)
    None

-- the same of an index list, by `index_at`'s tests
unfoldable pub index_ent_at : List ℕ → ℕ → Option (ℕ × ℕ)
index_ent_at s at =
    let k = be_at 2 s at in
    cond (leb (at + 2) (length s)) (cond (leb k max_key) (cond (leb (at + 2 + (k + 8)) (length s)) (Some (k, 0)) None) None) None

-- the entry that those lengths stand for
abbrev pub spot_of : List ℕ → Cursor → Option (ℕ × ℕ) → Option (EntryAt × ℕ)
spot_of s c (Some (k, v)) = Some (record_item s c k v, c.at + 2 + k + 16 + v)
spot_of s c None = None

abbrev pub index_spot_of : List ℕ → Cursor → Option (ℕ × ℕ) → Option (EntryAt × ℕ)
index_spot_of s c (Some (k, v)) = Some (index_item s c k, c.at + 2 + k + 8)
index_spot_of s c None = None

-- the key before (if there is one) against this one
unfoldable pub order_at : List ℕ → Bool → ℕ → ℕ → ℕ → ℕ → Ordering
unfolding cmp_bytes part_or
order_at s seen bat blen kat klen = cond seen (cmp_bytes (part_or s bat blen) (part_or s kat klen)) Ordering.Less

-- the version behind a key
abbrev pub ver_in : List ℕ → ℕ → Ver
ver_in s x = ver_of (be_at 8 s x) (be_at 4 s (x + 8))

abbrev pub way_by : Ordering → Bool → Way
way_by Ordering.Less newer = Way.Head
way_by Ordering.Equal newer = cond newer Way.Old Way.Falls
way_by Ordering.Greater newer = Way.Falls

unfoldable pub way_at : List ℕ → Bool → ℕ → ℕ → ℕ → ℕ → Way
unfolding order_at newer_than part_or
way_at s seen bat blen kat klen = way_by (order_at s seen bat blen kat klen) (newer_than (ver_in s (bat + blen)) (ver_in s (kat + klen)))
