-- A row as of a version (order 1), on every arena, address, key and version.
-- Assumes nothing.
use Rattle.std.specs.Prelude.{ℕ, zero, suc, List, Bool, true, false, take, Option, Some, None, Result, Ok, Err}
use Rattle.order.specs.declared.Ver.{Ver}
use Rattle.order.specs.Version.{newer_than}
use Rattle.frames.specs.declared.Addr.{Addr}
use Rattle.frames.specs.declared.Body.{Body}
use Rattle.frames.specs.declared.Refusal.{Refusal}
use Rattle.values.specs.declared.HistRef.{HistRef}
use Rattle.values.specs.Vals.{val_at}
use Rattle.records.specs.Records.{rec_at}
use Rattle.pages.specs.Boundaries.{place}
use Rattle.search_head.specs.Head.{head_at}
use Rattle.walks.specs.declared.OldPlace.{OldPlace}
use Rattle.walks.specs.Walk.{read_at, enter_at, no_older}
use Rattle.walks.specs.Aged.{aged_at}
use Rattle.asof.specs.declared.AsOf.{AsOf}
use Rattle.records.specs.declared.Rec.{Rec}
use Rattle.search_head.specs.declared.Head.{Head}
use Rattle.values.specs.declared.Val.{Val}
use Rattle.walks.specs.declared.Aged.{Aged}

-- "hand back the newest record .. with its own version": the record whole, its remote resolved; one that cannot be decoded is 4
abbrev pub handed_of : ℕ → Ver → ℕ → Option Rec → Result AsOf Refusal
handed_of slot ver reads (Some r) = Ok (AsOf.Is slot ver (place r.val_at r.val_len) reads)
handed_of slot ver reads None = Err Refusal.BadFrame

-- ---- "head or history, across linked pages"

-- "no newer than it": one that is newer is passed over, its key alone read; "History stays newest first", so the first that is not newer
-- is the newest
abbrev pub old_pick : List ℕ → ℕ → Ver → ℕ → (OldPlace → Result AsOf Refusal) → ℕ → OldPlace → Bool → Result AsOf Refusal
old_pick s slot ver reads go i rest true = go rest
old_pick s slot ver reads go i rest false = handed_of slot ver reads (read_at s rest.page 2 i)

abbrev pub old_by : List ℕ → Ver → ℕ → ℕ → (OldPlace → Result AsOf Refusal) → Option Aged → Result AsOf Refusal
old_by s v slot reads go (Some (Aged.Is ver i rest)) = old_pick s slot ver reads go i rest (newer_than ver v)
old_by s v slot reads go (Some Aged.End) = Ok (AsOf.Nothing reads)
old_by s v slot reads go None = Err Refusal.BadFrame

-- by the count that is left; "If all are newer .. the answer is none"
unfoldable pub old_as_of : List ℕ → Ver → ℕ → ℕ → ℕ → OldPlace → Result AsOf Refusal
old_as_of s v slot reads zero p = Ok (AsOf.Nothing reads)
old_as_of s v slot reads (suc k) p = old_by s v slot reads (old_as_of s v slot reads k) (aged_at s p)

-- the history page is entered as by a walk: its headers, its kind and slot < elems are judged
abbrev pub old_in : List ℕ → Ver → ℕ → ℕ → Option OldPlace → Result AsOf Refusal
old_in s v slot reads (Some p) = old_as_of s v slot reads p.left p
old_in s v slot reads None = Err Refusal.BadFrame

unfoldable pub old_enter : List ℕ → Ver → ℕ → ℕ → HistRef → Result AsOf Refusal
old_enter s v slot reads h = old_in s v slot reads (enter_at s h no_older)

-- "Skipped newer versions need no remote resolved": the head's value is decoded for its history, its remote is not followed
abbrev pub older_val : List ℕ → Ver → ℕ → ℕ → Option Val → Result AsOf Refusal
older_val s v slot reads (Some (Val.Inline h p n next)) = old_enter s v slot reads h
older_val s v slot reads (Some (Val.Remote h a n next)) = old_enter s v slot reads h
older_val s v slot reads None = Err Refusal.BadFrame

unfoldable pub older_as_of : List ℕ → Ver → ℕ → ℕ → Body → ℕ → Result AsOf Refusal
older_as_of s v slot reads b at = older_val s v slot reads (val_at (take b.end s) at true)

-- "hand back the newest record of that key that is no newer than it, head or history": the head, unless it is newer
abbrev pub head_pick : List ℕ → Ver → Body → ℕ → Ver → ℕ → ℕ → Bool → Result AsOf Refusal
head_pick s v b i ver at n true = older_as_of s v i n b at
head_pick s v b i ver at n false = handed_of i ver n (rec_at s b i)

-- "4 .. as for a search": the head is the one that a search finds, by its halving; "or the key is absent, the answer is none"
abbrev pub as_of_head : List ℕ → Ver → Result Head Refusal → Result AsOf Refusal
as_of_head s v (Ok (Head.Is b i ver at n)) = head_pick s v b i ver at n (newer_than ver v)
as_of_head s v (Ok (Head.Nothing n)) = Ok (AsOf.Nothing n)
as_of_head s v (Err r) = Err r

unfoldable pub as_of_at : List ℕ → Addr → List ℕ → Ver → Result AsOf Refusal
as_of_at s a probe v = as_of_head s v (head_at s a probe)
