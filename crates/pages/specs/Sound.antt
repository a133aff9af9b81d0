-- When a page is sound: document 01's sentence, one boolean function to each loop of the check. The whole of it, with the boundaries, stands in Meaning.
-- Assumes nothing.
use Rattle.std.specs.Prelude.{ℕ, zero, suc, ◌+◌, ◌*◌, List, Bool, true, false, ◌||◌, cond, ltb, leb, eqb, Option, Some, None}
use Rattle.spans.specs.Span.{part}
use Rattle.numbers.specs.Number.{le_at}
use Rattle.order.specs.declared.Ver.{Ver}
use Rattle.order.specs.Order.{cmp_bytes, is_less}
use Rattle.order.specs.Version.{newer_than}
use Rattle.frames.specs.declared.Addr.{Addr}
use Rattle.frames.specs.declared.Body.{Body}
use Rattle.frames.specs.Layout.{open_at}
use Rattle.records.specs.declared.Rec.{Rec}
use Rattle.values.specs.Keys.{ver_in}
use Rattle.records.specs.Records.{rec_at}
use Rattle.pages.specs.declared.OldVersion.{OldVersion}

-- ---- "records stand gapless in slot order, keys rise strictly (history pages excepted)"

-- the key rest at ra against the one before it, at la; the prefix in front is common to both
unfoldable pub in_order : List ℕ → ℕ → ℕ → ℕ → ℕ → ℕ → ℕ → Bool
in_order s kind i la ln ra rn = cond (eqb kind 2 || eqb i 0) true (is_less (cmp_bytes (part s la ln) (part s ra rn)))

-- the slots from i on: the record begins where the one before ended, and its key rises over that one's
abbrev pub slots_of : List ℕ → Body → (ℕ → ℕ → ℕ → Bool) → ℕ → ℕ → ℕ → ℕ → Option Rec → Bool
slots_of s b go i want la ln (Some r) =
    cond (eqb r.from want)
    (cond (in_order s b.kind i la ln r.rest_at r.rest_len) (go r.next r.rest_at r.rest_len) false)
    false
slots_of s b go i want la ln None = false

unfoldable pub slots_from : List ℕ → Body → ℕ → ℕ → ℕ → ℕ → ℕ → Bool
slots_from s b zero i want la ln = true
slots_from s b (suc k) i want la ln = slots_of s b (slots_from s b k (i + 1)) i want la ln (rec_at s b i)

unfoldable pub slots_ok : List ℕ → Body → Bool
slots_ok s b = slots_from s b b.elems 0 b.first 0 0

-- ---- history pages

-- the history page at an address
abbrev pub history_of : Option Body → Option Body
history_of (Some b) = cond (eqb b.kind 2) (Some b) None
history_of None = None

unfoldable pub history_at : List ℕ → Addr → Option Body
history_at s a = history_of (open_at s a)

-- "each history page that it reaches whole: all slots, gapless"
abbrev pub hist_of : List ℕ → Option Body → Bool
hist_of s (Some b) = slots_ok s b
hist_of s None = false

unfoldable pub hist_ok : List ℕ → Addr → Bool
hist_ok s a = hist_of s (history_at s a)

-- an old version: its page, its slot and its record
abbrev pub old_version : Addr → ℕ → Rec → OldVersion
old_version p i r = record { page = p; slot = i; rec = r }

-- the old version at a slot of a page, or behind its last slot the first of the page that it links to
abbrev pub old_rec : Addr → ℕ → Option Rec → Option OldVersion
old_rec a i (Some r) = Some (old_version a i r)
old_rec a i None = None

unfoldable pub old_in : List ℕ → Body → Addr → ℕ → Option OldVersion
old_in s b a i = old_rec a i (rec_at s b i)

abbrev pub old_link : List ℕ → Addr → Option Body → Option OldVersion
old_link s a (Some b) = old_in s b a 0
old_link s a None = None

abbrev pub old_of : List ℕ → Addr → ℕ → Option Body → Option OldVersion
old_of s a i (Some b) = cond (eqb i b.elems) (old_link s b.link (history_at s b.link)) (old_in s b a i)
old_of s a i None = None

unfoldable pub old_at : List ℕ → Addr → ℕ → Option OldVersion
old_at s a i = old_of s a i (history_at s a)

-- ---- "versions of a key grow strictly older"

-- n old versions from a slot on, the first older than t, each older than the one before, each page whole
abbrev pub chain_of : List ℕ → (Addr → ℕ → Ver → Bool) → Ver → Option OldVersion → Bool
chain_of s go t (Some o) =
    cond (hist_ok s o.page) (cond (newer_than t (ver_in s o.rec.ver_at)) (go o.page (o.slot + 1) (ver_in s o.rec.ver_at)) false) false
chain_of s go t None = false

unfoldable pub chain_from : List ℕ → ℕ → Addr → ℕ → Ver → Bool
chain_from s zero a i t = true
chain_from s (suc k) a i t = chain_of s (chain_from s k) t (old_at s a i)

-- "slot below its page's elems"
abbrev pub entered_of : ℕ → Option Body → Bool
entered_of i (Some b) = ltb i b.elems
entered_of i None = false

unfoldable pub entered : List ℕ → Addr → ℕ → Bool
entered s a i = entered_of i (history_at s a)

-- a head's history resolves
unfoldable pub head_ok : List ℕ → Rec → Bool
head_ok s r =
    cond (eqb r.hist.count 0) true
    (cond (entered s r.hist.page r.hist.slot) (chain_from s r.hist.count r.hist.page r.hist.slot (ver_in s r.ver_at)) false)

-- "has_multiple_versions is 1 exactly when a head has history"
unfoldable pub multi_of : ℕ → ℕ → ℕ
multi_of m c = cond (eqb c 0) m 1

-- the heads from i on
abbrev pub chains_of : List ℕ → (ℕ → Bool) → ℕ → Option Rec → Bool
chains_of s go m (Some r) = cond (head_ok s r) (go (multi_of m r.hist.count)) false
chains_of s go m None = false

unfoldable pub chains_from : List ℕ → Body → ℕ → ℕ → ℕ → Bool
chains_from s b zero i m = eqb m b.multi
chains_from s b (suc k) i m = chains_of s (chains_from s b k (i + 1)) m (rec_at s b i)

unfoldable pub chains_ok : List ℕ → Body → Bool
chains_ok s b = cond (eqb b.kind 1) true (chains_from s b b.elems 0 0)

-- a page's records: both
abbrev pub recs_ok : List ℕ → Body → Bool
recs_ok s b = cond (slots_ok s b) (chains_ok s b) false

-- ---- "hint counts fit the payload": u32 count and history addresses, u32 count and remote addresses, behind size

abbrev pub remotes_at : List ℕ → Body → ℕ
remotes_at s b = b.end + 4 + 8 * le_at 4 s b.end

unfoldable pub hints_ok : List ℕ → Body → Bool
hints_ok s b =
    cond (eqb b.tail b.end) true
    (cond (leb (b.end + 4) b.tail)
    (cond (leb (remotes_at s b + 4) b.tail) (leb (remotes_at s b + 4 + 8 * le_at 4 s (remotes_at s b)) b.tail) false)
    false)
