-- Two pages below the free address, w, read one behind the other: "every record of the left, then of the right".
-- Assumes nothing.
use Rattle.std.specs.Prelude.{ℕ, ◌+◌, ◌*◌, List, true, cond, length, leb, eqb, Option, Some, None, Result, Ok, Err}
use Rattle.order.specs.declared.Ver.{Ver}
use Rattle.order.specs.Version.{ver_of}
use Rattle.frames.specs.declared.Addr.{Addr}
use Rattle.frames.specs.declared.PageId.{PageId}
use Rattle.frames.specs.declared.Refusal.{Refusal}
use Rattle.frames.specs.Layout.{open_at, null_addr, null_pid}
use Rattle.frames.specs.Limits.{max_entries, max_key, max_value}
use Rattle.pages.specs.declared.Place.{Place}
use Rattle.pages.specs.Boundaries.{place, bounds_at}
use Rattle.walks.specs.declared.Walk.{Walk}
use Rattle.walks.specs.Walk.{forward_at, step_at}
use Rattle.build_sources.specs.declared.Key.{Key}
use Rattle.build_sources.specs.declared.Cursor.{Cursor}
use Rattle.build_sources.specs.declared.EntryAt.{EntryAt}
use Rattle.build_sources.specs.declared.EntryRead.{EntryRead}
use Rattle.build_sources.specs.Lists.{same_key}
use Rattle.frames.specs.declared.Body.{Body}
use Rattle.pages.specs.declared.Bounds.{Bounds}
use Rattle.walks.specs.declared.Step.{Step}

-- a walk over the whole page at an address
abbrev pub whole_of : List ℕ → Addr → Option Body → Result Walk Refusal
whole_of w a (Some b) = forward_at w a 0 b.elems
whole_of w a None = Err Refusal.BadFrame

unfoldable pub whole_at : List ℕ → Addr → Result Walk Refusal
whole_at w a = whole_of w a (open_at w a)

-- in front of that page's first record, with another page behind it, or none (0); the key of the entry before stays
abbrev pub first_in : Cursor → Addr → Result Walk Refusal → Result Bounds Refusal → Option Cursor
first_in c then (Ok v) (Ok e) =
    Some (record { source = c.source; seen = c.seen; key = c.key; at = c.at; walk = v; pre = e.prefix; then = then })
first_in c then (Ok v) (Err n) = None
first_in c then (Err n) e = None

unfoldable pub page_first : List ℕ → Cursor → Addr → Addr → Option Cursor
page_first w c a then = first_in c then (whole_at w a) (bounds_at w a)

-- a whole key is the page's prefix and the rest
abbrev pub page_key : Cursor → Place → Key
page_key c rest = record { pat = c.pre.at; plen = c.pre.len; kat = rest.at; klen = rest.len }

abbrev pub page_item : List ℕ → Cursor → Place → Ver → Place → Addr → PageId → EntryAt
page_item w c rest ver value kept page =
    record {
      footing = true;
      old = same_key w c (page_key c rest);
      key = page_key c rest;
      ver = ver;
      vat = value.at;
      vlen = value.len;
      kept = kept;
      page = page;
    }

abbrev pub page_past : Cursor → Place → Walk → Cursor
page_past c rest v = record { source = c.source; seen = true; key = page_key c rest; at = c.at; walk = v; pre = c.pre; then = c.then }

-- a record that a walk hands back, which lies in w and keeps document 01's lengths
unfoldable pub item_at : List ℕ → Cursor → Place → Ver → Place → Addr → PageId → Walk → EntryRead
unfolding same_key
item_at w c rest ver value kept page v =
    cond (leb (c.pre.at + c.pre.len) (length w))
    (cond (leb (rest.at + rest.len) (length w))
    (cond (leb (value.at + value.len) (length w))
    (cond (leb (c.pre.len + rest.len) max_key)
    (cond (leb value.len max_value) (EntryRead.Got (page_item w c rest ver value kept page) (page_past c rest v)) EntryRead.Bad)
    EntryRead.Bad)
    EntryRead.Bad)
    EntryRead.Bad)
    EntryRead.Bad

abbrev pub walked_of : List ℕ → Cursor → Result Step Refusal → EntryRead
walked_of w c (Ok (Step.Found x v)) = item_at w c x.key x.ver x.value x.remote null_pid v
walked_of w c (Ok (Step.Leads x v)) = item_at w c x.key (ver_of 0 0) (place 0 0) null_addr x.page v
walked_of w c (Ok Step.End) = EntryRead.End
walked_of w c (Err n) = EntryRead.Bad

-- the next record of the page that is walked; a page has at most 65,535 heads, a head's count is a u32
unfoldable pub walked : List ℕ → Cursor → EntryRead
walked w c =
    cond (leb c.walk.heads max_entries) (cond (leb c.walk.older.left 4294967295) (walked_of w c (step_at w c.walk)) EntryRead.Bad) EntryRead.Bad

-- where it ends, the first record of the page behind
abbrev pub turned_of : List ℕ → Option Cursor → EntryRead
turned_of w (Some d) = walked w d
turned_of w None = EntryRead.Bad

unfoldable pub turned : List ℕ → Cursor → EntryRead
turned w c = cond (eqb c.then.0 0) EntryRead.End (turned_of w (page_first w c c.then null_addr))

abbrev pub pages_of : List ℕ → Cursor → EntryRead → EntryRead
pages_of w c (EntryRead.Got i d) = EntryRead.Got i d
pages_of w c EntryRead.End = turned w c
pages_of w c EntryRead.Bad = EntryRead.Bad

unfoldable pub pages_next : List ℕ → Cursor → EntryRead
pages_next w c = pages_of w c (walked w c)

-- what bounds the steps that are left
unfoldable pub pages_left : Cursor → ℕ
pages_left c =
    cond (leb c.walk.heads max_entries)
    (cond (leb c.walk.older.left 4294967295) (c.walk.heads * 4294967296 + c.walk.older.left + cond (eqb c.then.0 0) 0 281474976710656) 0)
    0
