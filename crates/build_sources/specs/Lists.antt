-- The two lists in house form, as document 01 lays them out. Every malformed list is BAD LIST.
-- Assumes nothing.
use Rattle.std.specs.Prelude.{ℕ, ◌+◌, ◌-◌, List, Bool, false, cond, length, get_or, leb, eqb, Option, Some, None}
use Rattle.numbers.specs.Number.{be_at}
use Rattle.order.specs.Order.{cmp_bytes, is_equal}
use Rattle.order.specs.Version.{ver_of}
use Rattle.frames.specs.Layout.{page_id, null_addr, null_pid}
use Rattle.frames.specs.Limits.{max_key, max_value}
use Rattle.pages.specs.Boundaries.{place}
use Rattle.walks.specs.declared.Walk.{Walk}
use Rattle.walks.specs.Walk.{walk_of, no_older}
use Rattle.build_sources.specs.declared.Key.{Key}
use Rattle.build_sources.specs.declared.Cursor.{Cursor}
use Rattle.build_sources.specs.declared.EntryAt.{EntryAt}
use Rattle.build_sources.specs.Keys.{key_bytes}

-- a list's cursor carries no walk
abbrev pub no_walk : Walk
no_walk = walk_of no_older.page 0 0 0 (place 0 0) no_older

-- a key of a list has no prefix of its own
abbrev pub list_key : ℕ → ℕ → Key
list_key at n = record { pat = 0; plen = 0; kat = at; klen = n }

-- in front of the first entry, of a record list (source 0), an index list (1) or pages (2)
abbrev pub first_of : ℕ → Cursor
first_of source = record { source = source; seen = false; key = list_key 0 0; at = 5; walk = no_walk; pre = place 0 0; then = null_addr }

-- a cursor by what a record list's step asks of it: its place, and the key before
abbrev pub cursor_at : ℕ → Bool → ℕ → ℕ → ℕ → ℕ → Cursor
cursor_at at seen pat plen kat klen =
    record { source = 0; seen = seen; key = record { pat = pat; plen = plen; kat = kat; klen = klen }; at = at; walk = no_walk; pre = place 0 0; then = null_addr }

-- "version byte 1; u32 big-endian byte count of what follows"
unfoldable pub begun_of : List ℕ → ℕ → Option Cursor
begun_of l source =
    cond (leb 5 (length l)) (cond (eqb (get_or l 0 0) 1) (cond (eqb (be_at 4 l 1) (length l - 5)) (Some (first_of source)) None) None) None

-- whether the key is that of the entry before
unfoldable pub same_key : List ℕ → Cursor → Key → Bool
unfolding key_bytes
same_key s c k = cond c.seen (is_equal (cmp_bytes (key_bytes s c.key) (key_bytes s k))) false

-- "key length u16, key, txid u64, cmd u32, value length u32, value, all big-endian": k and v are the two lengths
abbrev pub record_item : List ℕ → Cursor → ℕ → ℕ → EntryAt
record_item s c k v =
    record {
      footing = false;
      old = same_key s c (list_key (c.at + 2) k);
      key = list_key (c.at + 2) k;
      ver = ver_of (be_at 8 s (c.at + 2 + k)) (be_at 4 s (c.at + 2 + k + 8));
      vat = c.at + 2 + k + 16;
      vlen = v;
      kept = null_addr;
      page = null_pid;
    }

-- "header or entry cut short, key over 4,096, value over 65,536" is no entry
unfoldable pub record_at : List ℕ → Cursor → Option (EntryAt × ℕ)
unfolding same_key
record_at s c =
    let k = be_at 2 s c.at in
    let v = be_at 4 s (c.at + 2 + k + 12) in
    cond (leb (c.at + 2) (length s))
    (cond (leb k max_key)
    (cond (leb (c.at + 2 + (k + 16)) (length s))
    (cond (leb v max_value)
    (cond (leb (c.at + 2 + k + 16 + v) (length s)) (Some (record_item s c k v, c.at + 2 + k + 16 + v)) None)
    None)
    None)
    None)
    None

-- "Index list: key length u16, key, page id u64"
abbrev pub index_item : List ℕ → Cursor → ℕ → EntryAt
index_item s c k =
    record {
      footing = false;
      old = same_key s c (list_key (c.at + 2) k);
      key = list_key (c.at + 2) k;
      ver = ver_of 0 0;
      vat = 0;
      vlen = 0;
      kept = null_addr;
      page = page_id (be_at 8 s (c.at + 2 + k));
    }

unfoldable pub index_at : List ℕ → Cursor → Option (EntryAt × ℕ)
unfolding same_key
index_at s c =
    let k = be_at 2 s c.at in
    cond (leb (c.at + 2) (length s))
    (cond (leb k max_key) (cond (leb (c.at + 2 + (k + 8)) (length s)) (Some (index_item s c k, c.at + 2 + k + 8)) None) None)
    None

unfoldable pub spot_at : List ℕ → Cursor → Option (EntryAt × ℕ)
unfolding record_at index_at
spot_at s c = cond (eqb c.source 1) (index_at s c) (record_at s c)
