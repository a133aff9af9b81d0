-- The step of a record list asks of a cursor only its place and the key before.
-- Assumes nothing.
use Prim.Native.Nat.{ℕ, ◌≤◌, ◌<◌}
use mathlib.Core.Path.{◌≡◌, refl}
use mathlib.Core.List.{List}
use mathlib.Core.Bool.{Bool, true}
use lib.ListN.{length}
use borrow.Author.Tests.{le-leb, lt-leb}
use Rattle.walks.specs.declared.Walk.{Walk}
use Rattle.build_sources.specs.declared.Cursor.{Cursor}
use Rattle.build_sources.specs.declared.Key.{Key}
use Rattle.build_sources.specs.declared.EntryAt.{EntryAt}
use Rattle.build_sources.specs.declared.EntryRead.{EntryRead}
use Rattle.build_sources.specs.Keys.{key_bytes}
use Rattle.build_sources.specs.Lists.{cursor_at, same_key, record_at, spot_at}
use Rattle.build_sources.specs.Source.{list_next, step_of, next_of}
use Rattle.std.proofs.Common.{Some}

pub same_anywhere : (s : List ℕ) (seen : Bool) (pat plen kat klen : ℕ) (k : Key) (at : ℕ) → same_key s (cursor_at 0 seen pat plen kat klen) k ≡ same_key s (cursor_at at seen pat plen kat klen) k
unfolding same_key
same_anywhere s seen pat plen kat klen k at = refl

abbrev pub bare_of : Cursor → Cursor
bare_of c = cursor_at c.at c.seen c.key.pat c.key.plen c.key.kat c.key.klen

pub record_bare : (s : List ℕ) (c : Cursor) → record_at s (bare_of c) ≡ record_at s c
unfolding record_at same_key key_bytes
record_bare s c = refl

-- the cursor past an entry carries the walk on
pub walk_kept : (c : Cursor) (i : EntryAt) (past : ℕ) (w : Walk) → w ≡ c.walk
    → EntryRead.Got i (record { source = c.source; seen = true; key = i.key; at = past; walk = w; pre = c.pre; then = c.then }) ≡ step_of c (Some (i, past))
unfolding step_of
walk_kept c i past w e = rw e refl

module _ (l w : List ℕ) (c : Cursor) (h : c.source ≡ 0) where
  pub record_end : length l ≤ c.at → EntryRead.End ≡ next_of l w c
  unfolding next_of list_next
  record_end e = rw (h, le-leb (length l) c.at e)

  pub record_on : c.at < length l → step_of c (record_at l c) ≡ next_of l w c
  unfolding next_of list_next spot_at
  record_on e = rw (h, lt-leb (length l) c.at e)
