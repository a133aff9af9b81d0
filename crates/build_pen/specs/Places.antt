-- A record list's entries by their places: those from a place on, the first of them a head; and those behind a key.
-- Assumes nothing.
use Rattle.std.specs.Prelude.{ℕ, ◌+◌, ◌≤◌, ◌≡◌, List, [], Bool, true, false, length, Some}
use Rattle.spans.specs.Span.{part, part_or}
use Rattle.order.specs.Order.{cmp_bytes, is_equal}
use Rattle.frames.specs.Limits.{max_key, max_value}
use Rattle.build_sources.specs.declared.Cursor.{Cursor}
use Rattle.build_sources.specs.Lists.{cursor_at}
use Rattle.build_sources.specs.Source.{Entry, entries, well_formed}
use Rattle.build_sweep.specs.Ents.{ent_at, ver_in}
use Rattle.build_pen.specs.declared.RecordAt.{RecordAt}

abbrev pub here : ℕ → Bool → ℕ → ℕ → Cursor
here at seen kat klen = cursor_at at seen 0 0 kat klen

-- the entries from a place on: the first is a head
abbrev pub list_from : List ℕ → ℕ → List Entry
list_from l at = entries l [] (here at false 0 0)

-- the same behind an entry with this key: the first may be an old version of it
abbrev pub list_behind : List ℕ → ℕ → ℕ → ℕ → List Entry
list_behind l at kat klen = entries l [] (here at true kat klen)

-- they go on to the end
abbrev pub Well : List ℕ → ℕ → Type 0
Well l at = well_formed l [] (here at false 0 0) ≡ true

-- what is read at a place
pub record Reads (l : List ℕ) (at : ℕ) (i : RecordAt) : Type 0 where
  pub ent : Some (i.klen, i.vlen) ≡ ent_at l at
  pub kat : i.kat ≡ at + 2

abbrev pub past_of : RecordAt → ℕ
past_of i = i.kat + i.klen + 16 + i.vlen

-- it lies in the list, and keeps document 01's lengths
pub record Inside (l : List ℕ) (i : RecordAt) : Type 0 where
  pub all : past_of i ≤ length l
  pub key : i.klen ≤ max_key
  pub val : i.vlen ≤ max_value

-- the entry that it is
abbrev pub entry_at : List ℕ → Bool → ℕ → ℕ → ℕ → Entry
entry_at l old k n v = record { old = old; key = part_or l k n; ver = ver_in l (k + n); val = part l (k + n + 16) v; kept = 0; page = 0 }

abbrev pub entry_in : List ℕ → Bool → RecordAt → Entry
entry_in l old i = entry_at l old i.kat i.klen i.vlen

-- whether two keys are the same
abbrev pub alike : List ℕ → ℕ → ℕ → ℕ → ℕ → Bool
alike l bat blen kat klen = is_equal (cmp_bytes (part_or l bat blen) (part_or l kat klen))
