-- The three searches, on every arena, address and probe.
-- Assumes nothing.
use Rattle.std.specs.Prelude.{ℕ, ◌-◌, List, Bool, true, false, ◌&&◌, ◌||◌, cond, drop, ltb, eqb, Option, Some, None, Result, Ok, Err}
use Rattle.spans.specs.Span.{part}
use Rattle.numbers.specs.Number.{le_at}
use Rattle.order.specs.declared.Ver.{Ver}
use Rattle.order.specs.Order.{cmp_bytes, starts_with, is_less}
use Rattle.order.specs.Version.{ver_of, newer_than}
use Rattle.frames.specs.declared.Addr.{Addr}
use Rattle.frames.specs.declared.Body.{Body}
use Rattle.frames.specs.declared.Refusal.{Refusal}
use Rattle.frames.specs.Layout.{page_id, open_at}
use Rattle.values.specs.Keys.{ver_in}
use Rattle.records.specs.Records.{key_at_slot, rec_at}
use Rattle.records.specs.Parts.{prefix_in}
use Rattle.pages.specs.Boundaries.{place}
use Rattle.sst.specs.declared.Want.{Want}
use Rattle.sst.specs.Halve.{asked, lowered, halve}
use Rattle.records.specs.declared.Rec.{Rec}
use Rattle.sst.specs.declared.Bound.{Bound}
use Rattle.sst.specs.declared.Ended.{Ended}
use Rattle.sst.specs.declared.Floor.{Floor}
use Rattle.sst.specs.declared.Found.{Found}
use Rattle.sst.specs.declared.Halved.{Halved}
use Rattle.sst.specs.declared.Outcome.{Outcome}
use Rattle.std.specs.declared.cmp.Ordering.{Ordering}
use Rattle.values.specs.declared.KeyParts.{KeyParts}

-- ---- the comparison

-- whether a key's version is newer than v; "an index page ignores" it
unfoldable pub newer_at : List ℕ → ℕ → ℕ → Ver → Bool
newer_at s kind at v = cond (eqb kind 1) false (newer_than (ver_in s at) v)

-- "A halving step judges the middle's slot and key"
abbrev pub cmp_read : List ℕ → Body → List ℕ → Want → Option KeyParts → Option Ordering
cmp_read s b rest w (Some k) =
    cond w.lower (lowered (newer_at s b.kind k.ver_at w.ver) (asked (cmp_bytes (part s k.rest_at k.rest_len) rest))) (asked (cmp_bytes (part s k.rest_at k.rest_len) rest))
cmp_read s b rest w None = None

-- the key of slot i against the rest of a probe
unfoldable pub key_cmp : List ℕ → Body → List ℕ → Want → ℕ → Option Ordering
key_cmp s b rest w i = cmp_read s b rest w (key_at_slot s b i)

-- ---- the page

-- "Search takes a leaf, floor an index page, lower bound either"
unfoldable pub right_kind : ℕ → Want → Bool
right_kind kind w = (w.leaf && eqb kind 0) || (w.index && eqb kind 1)

-- a page for a search
pub data Searchable : Type 0 where
  ready : Body → Searchable
  empty : Searchable
  bad : Searchable

-- "another kind is 4"; "A page without keys answers none .. before the probe is judged"
abbrev pub ready_of : Want → Option Body → Searchable
ready_of w (Some b) = cond (right_kind b.kind w) (cond (eqb b.elems 0) empty (ready b)) bad
ready_of w None = bad

unfoldable pub ready_at : List ℕ → Addr → Want → Searchable
ready_at s a w = ready_of w (open_at s a)

-- ---- the probe

-- whether it begins with the page's prefix
unfoldable pub fits_prefix : List ℕ → Body → List ℕ → Bool
fits_prefix s b probe = starts_with (prefix_in s b) probe

-- then the page's keys are halved
unfoldable pub halved : List ℕ → Body → List ℕ → Want → Option Halved
halved s b probe w = halve (key_cmp s b (drop b.prefix_len probe) w) b.elems 0 b.elems 0

-- "A probe that doesn't begin with the prefix should be answered as if whole keys were compared": all of them begin with it, so below the
-- prefix it is before the first key, above it behind the last. "The keys read are 0 where no key was read"
unfoldable pub elsewhere : List ℕ → Body → List ℕ → Option Halved
elsewhere s b probe = cond (is_less (cmp_bytes probe (prefix_in s b))) (Some (Halved.End 0 0)) (Some (Halved.End b.elems 0))

unfoldable pub probed : List ℕ → Body → List ℕ → Want → Option Halved
probed s b probe w = cond (fits_prefix s b probe) (halved s b probe w) (elsewhere s b probe)

abbrev pub outcome_of : List ℕ → List ℕ → Want → Searchable → Option Outcome
outcome_of s probe w (ready b) = Some (Outcome.Stands b (probed s b probe w))
outcome_of s probe w empty = Some Outcome.Empty
outcome_of s probe w bad = None

unfoldable pub outcome_at : List ℕ → Addr → List ℕ → Want → Option Outcome
outcome_at s a probe w = outcome_of s probe w (ready_at s a w)

-- the same of a page that was opened: its body is at hand
abbrev pub end_of : Option Outcome → Option Ended
end_of (Some (Outcome.Stands b h)) = Some (Ended.Stands h)
end_of (Some Outcome.Empty) = Some Ended.Empty
end_of None = None

unfoldable pub ended_in : List ℕ → Body → List ℕ → Want → Option Ended
ended_in s b probe w = end_of (outcome_of s probe w (ready_of w (Some b)))

-- ---- lower bound: "the first position not less, past the end otherwise"

abbrev pub bound : Ver → Want
bound v = record { leaf = true; index = true; lower = true; ver = v }

abbrev pub bound_in : ℕ → Option Halved → Result Bound Refusal
bound_in elems (Some (Halved.At i n)) = Err Refusal.BadFrame
bound_in elems (Some (Halved.End p n)) = cond (ltb p elems) (Ok (Bound.At p n)) (Ok (Bound.PastEnd p n))
bound_in elems None = Err Refusal.BadFrame

abbrev pub lower_of : Option Outcome → Result Bound Refusal
lower_of (Some (Outcome.Stands b h)) = bound_in b.elems h
lower_of (Some Outcome.Empty) = Ok (Bound.PastEnd 0 0)
lower_of None = Err Refusal.BadFrame

unfoldable pub lower_at : List ℕ → Addr → List ℕ → Ver → Result Bound Refusal
lower_at s a probe v = lower_of (outcome_at s a probe (bound v))

-- ---- floor: "the greatest key not above, slot 0 below the first"

abbrev pub indexes : Want
indexes = record { leaf = false; index = true; lower = false; ver = ver_of 0 0 }

-- the slot before the first greater key, 0 where that is the first
abbrev pub floor_slot : ℕ → ℕ
floor_slot p = p - 1

-- "Floor's last read of the page id is not a key read"
abbrev pub page_rec : List ℕ → ℕ → ℕ → Option Rec → Result Floor Refusal
page_rec s i n (Some r) = Ok (Floor.Is i (page_id (le_at 8 s r.val_at)) n)
page_rec s i n None = Err Refusal.BadFrame

unfoldable pub page_in : List ℕ → Body → ℕ → ℕ → Result Floor Refusal
page_in s b i n = page_rec s i n (rec_at s b i)

abbrev pub floor_in : List ℕ → Body → Option Halved → Result Floor Refusal
floor_in s b (Some (Halved.At i n)) = page_in s b i n
floor_in s b (Some (Halved.End p n)) = page_in s b (floor_slot p) n
floor_in s b None = Err Refusal.BadFrame

abbrev pub floor_of : List ℕ → Option Outcome → Result Floor Refusal
floor_of s (Some (Outcome.Stands b h)) = floor_in s b h
floor_of s (Some Outcome.Empty) = Ok (Floor.Nothing 0)
floor_of s None = Err Refusal.BadFrame

unfoldable pub floor_at : List ℕ → Addr → List ℕ → Result Floor Refusal
floor_at s a probe = floor_of s (outcome_at s a probe indexes)

-- ---- search: "stops at an equal key"; "judges a history reference's form .. and does not follow it"

abbrev pub leaves : Want
leaves = record { leaf = true; index = false; lower = false; ver = ver_of 0 0 }

abbrev pub found_rec : List ℕ → ℕ → ℕ → Option Rec → Result Found Refusal
found_rec s i n (Some r) = Ok (Found.Is i (ver_in s r.ver_at) r.hist (place r.val_at r.val_len) n)
found_rec s i n None = Err Refusal.BadFrame

unfoldable pub head_in : List ℕ → Body → ℕ → ℕ → Result Found Refusal
head_in s b i n = found_rec s i n (rec_at s b i)

abbrev pub found_in : List ℕ → Body → Option Halved → Result Found Refusal
found_in s b (Some (Halved.At i n)) = head_in s b i n
found_in s b (Some (Halved.End p n)) = Ok (Found.Nothing n)
found_in s b None = Err Refusal.BadFrame

abbrev pub search_of : List ℕ → Option Outcome → Result Found Refusal
search_of s (Some (Outcome.Stands b h)) = found_in s b h
search_of s (Some Outcome.Empty) = Ok (Found.Nothing 0)
search_of s None = Err Refusal.BadFrame

unfoldable pub search_at : List ℕ → Addr → List ℕ → Result Found Refusal
search_at s a probe = search_of s (outcome_at s a probe leaves)
