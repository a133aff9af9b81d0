-- A walk: how it begins, and one step of it, on every arena, address, range and walk.
-- Assumes nothing.
use Rattle.std.specs.Prelude.{ℕ, ◌+◌, ◌*◌, ◌-◌, List, Bool, false, ◌&&◌, cond, ℤ, pos, nat_abs, length, ltb, leb, eqb, Option, Some, None, Result, Ok, Err}
use Rattle.std.specs.Int.Signed.{lt_z}
use Rattle.numbers.specs.Number.{le_at}
use Rattle.frames.specs.declared.Addr.{Addr}
use Rattle.frames.specs.declared.Body.{Body}
use Rattle.frames.specs.declared.Refusal.{Refusal}
use Rattle.frames.specs.Layout.{base_len, page_id, open_at, null_addr, null_pid}
use Rattle.values.specs.declared.HistRef.{HistRef}
use Rattle.records.specs.declared.Rec.{Rec}
use Rattle.values.specs.Keys.{ver_in}
use Rattle.records.specs.Records.{rec_at}
use Rattle.pages.specs.declared.Place.{Place}
use Rattle.pages.specs.Boundaries.{place}
use Rattle.pages.specs.Sound.{history_at}
use Rattle.walks.specs.declared.Sheet.{Sheet}
use Rattle.walks.specs.declared.OldPlace.{OldPlace}
use Rattle.walks.specs.declared.Walk.{Walk}
use Rattle.walks.specs.declared.Item.{Item}
use Rattle.walks.specs.declared.Step.{Step}

-- a page as a walk carries it: what of its body the reading of a record needs
abbrev pub sheet_of : Body → Sheet
sheet_of b = record { at = b.at; elems = b.elems; front = b.lo_len + b.hi_len; end = b.end; prefix_len = b.prefix_len }

-- and a body of a kind that reads the same
abbrev pub body_in : Sheet → ℕ → Body
body_in v kind =
    record {
      at = v.at;
      end = v.end;
      tail = v.end;
      elems = v.elems;
      first = v.at + base_len + 4 * v.elems + v.front;
      kind = kind;
      prefix_len = v.prefix_len;
      lo_len = v.front;
      hi_len = 0;
      sibling = null_pid;
      multi = 0;
      link = null_addr;
    }

abbrev pub older_of : Sheet → Addr → ℕ → ℕ → OldPlace
older_of v link slot left = record { page = v; link = link; slot = slot; left = left }

abbrev pub older_on : Body → ℕ → ℕ → OldPlace
older_on b slot left = older_of (sheet_of b) b.link slot left

-- the history of no head, in no page
abbrev pub no_older : OldPlace
no_older = older_of (record { at = 0; elems = 0; front = 0; end = 0; prefix_len = 0 }) null_addr 0 0

abbrev pub walk_of : Sheet → ℕ → ℕ → ℕ → Place → OldPlace → Walk
walk_of v way p n key older = record { page = v; way = way; pos = p; heads = n; key = key; older = older }

-- ---- beginning

-- "Forward takes positions begin to end (end above elems is 4 at any begin; begin above end lists nothing)"
unfoldable pub up_range : ℕ → ℕ → ℕ → Option (ℕ × ℕ)
up_range begin end elems = cond (leb end elems) (Some (begin, end - begin)) None

-- "Backward .. counts down from a signed start to a signed end, both included; start below end lists nothing.
-- Otherwise an end below 0 or a start at or above elems is 4"
unfoldable pub down_range : ℤ → ℤ → ℕ → Option (ℕ × ℕ)
down_range start end elems =
    cond (lt_z start end) (Some (0, 0))
    (cond (lt_z end (pos 0)) None
    (cond (leb elems (nat_abs start)) None (Some (nat_abs start, nat_abs start - nat_abs end + 1))))

-- no head walked yet, so nothing left of its history
abbrev pub begun_of : Body → ℕ → Option (ℕ × ℕ) → Result Walk Refusal
begun_of b way (Some (p, n)) = Ok (walk_of (sheet_of b) way p n (place 0 0) (older_on b 0 0))
begun_of b way None = Err Refusal.BadFrame

-- the ways: up a leaf 0, down a leaf 1, up an index page 2
unfoldable pub up_way : ℕ → ℕ
up_way kind = cond (eqb kind 1) 2 0

unfoldable pub kind_of_way : ℕ → ℕ
kind_of_way way = cond (eqb way 2) 1 0

-- "Headers and kind are judged even for an empty range"; "A history page, delta or remote where a page is wanted is 4"
abbrev pub forward_of : ℕ → ℕ → Option Body → Result Walk Refusal
forward_of begin end (Some b) = cond (eqb b.kind 2) (Err Refusal.BadFrame) (begun_of b (up_way b.kind) (up_range begin end b.elems))
forward_of begin end None = Err Refusal.BadFrame

unfoldable pub forward_at : List ℕ → Addr → ℕ → ℕ → Result Walk Refusal
forward_at s a begin end = forward_of begin end (open_at s a)

-- "Backward (leaves only)"
abbrev pub backward_of : ℤ → ℤ → Option Body → Result Walk Refusal
backward_of start end (Some b) = cond (eqb b.kind 0) (begun_of b 1 (down_range start end b.elems)) (Err Refusal.BadFrame)
backward_of start end None = Err Refusal.BadFrame

unfoldable pub backward_at : List ℕ → Addr → ℤ → ℤ → Result Walk Refusal
backward_at s a start end = backward_of start end (open_at s a)

-- ---- stepping

-- the page that a walk carries lies in an arena of this length: all that a step asks of it
unfoldable pub fits_in : ℕ → Sheet → Bool
fits_in len v =
    cond (leb v.at v.end && leb v.end len && leb v.prefix_len v.front) (leb (v.at + base_len + 4 * v.elems + v.front) v.end) false

unfoldable pub body_of : List ℕ → Sheet → ℕ → Option Body
body_of s v kind = cond (fits_in (length s) v) (Some (body_in v kind)) None

unfoldable pub read_at : List ℕ → Sheet → ℕ → ℕ → Option Rec
read_at s v kind i = cond (fits_in (length s) v) (rec_at s (body_in v kind) i) None

unfoldable pub moved_of : ℕ → ℕ → ℕ
moved_of way p = cond (eqb way 1) (p - 1) (p + 1)

-- the walk behind a head, with its key and its history
unfoldable pub on_of : Walk → Place → OldPlace → Walk
on_of w key older = walk_of w.page w.way (moved_of w.way w.pos) (w.heads - 1) key older

-- the walk behind an old version: only the history is shorter
unfoldable pub behind_of : Walk → OldPlace → Walk
behind_of w older = walk_of w.page w.way w.pos w.heads w.key older

-- the record at places of the arena
unfoldable pub item_of : List ℕ → Place → Rec → Addr → Item
item_of s key r named =
    record { key = key; ver = ver_in s r.ver_at; value = place r.val_at r.val_len; remote = r.remote; named = named }

abbrev pub rest_of : Rec → Place
rest_of r = place r.rest_at r.rest_len

-- the old version at a slot, and one less behind it
abbrev pub next_rec : List ℕ → Place → OldPlace → Addr → Option Rec → Option (Item × OldPlace)
next_rec s key p named (Some r) = Some (item_of s key r named, older_of p.page p.link (p.slot + 1) (p.left - 1))
next_rec s key p named None = None

unfoldable pub next_in : List ℕ → Place → OldPlace → Addr → Option (Item × OldPlace)
next_in s key p named = next_rec s key p named (read_at s p.page 2 p.slot)

-- "a linked one in the step that yields its first record": it is named there
abbrev pub next_link : List ℕ → Place → ℕ → Addr → Option Body → Option (Item × OldPlace)
next_link s key left a (Some b) = next_in s key (older_on b 0 left) a
next_link s key left a None = None

-- behind a page's last slot, the first of the page that it links to; no such page is 4
unfoldable pub next_old : List ℕ → Place → OldPlace → Option (Item × OldPlace)
next_old s key p = cond (eqb p.slot p.page.elems) (next_link s key p.left p.link (history_at s p.link)) (next_in s key p null_addr)

-- "A walk's head step enters the history page: its headers, its kind and slot < elems are judged there"
abbrev pub enter_of : ℕ → ℕ → Option Body → Option OldPlace
enter_of slot count (Some b) = cond (ltb slot b.elems) (Some (older_on b slot count)) None
enter_of slot count None = None

unfoldable pub enter_at : List ℕ → HistRef → OldPlace → Option OldPlace
enter_at s h was = cond (eqb h.count 0) (Some was) (enter_of h.slot h.count (history_at s h.page))

-- a leaf's head: "the first in the head's step" is named, 0 where it has no history
abbrev pub head_older : List ℕ → Walk → Rec → Option OldPlace → Result Step Refusal
head_older s w r (Some older) = Ok (Step.Found (item_of s (rest_of r) r r.hist.page) (on_of w (rest_of r) older))
head_older s w r None = Err Refusal.BadFrame

-- an index page's record: "its value is a page id u64"
abbrev pub leads_to : List ℕ → Walk → Rec → Result Step Refusal
leads_to s w r = Ok (Step.Leads (record { key = rest_of r; page = page_id (le_at 8 s r.val_at) }) (on_of w (rest_of r) w.older))

abbrev pub head_rec : List ℕ → Walk → Option Rec → Result Step Refusal
head_rec s w (Some r) = cond (eqb w.way 2) (leads_to s w r) (head_older s w r (enter_at s r.hist w.older))
head_rec s w None = Err Refusal.BadFrame

unfoldable pub head_step : List ℕ → Walk → Result Step Refusal
head_step s w = head_rec s w (read_at s w.page (kind_of_way w.way) w.pos)

abbrev pub old_step : Walk → Option (Item × OldPlace) → Result Step Refusal
old_step w (Some (x, older)) = Ok (Step.Found x (behind_of w older))
old_step w None = Err Refusal.BadFrame

-- "A walk's step takes the walk and hands back the record with the walk moved on": first what is left of the last head's history, newest
-- first, then the next head
unfoldable pub step_at : List ℕ → Walk → Result Step Refusal
step_at s w = cond (ltb 0 w.older.left) (old_step w (next_old s w.key w.older)) (cond (eqb w.heads 0) (Ok Step.End) (head_step s w))
