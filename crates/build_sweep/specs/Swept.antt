-- What one sweep over a list says: all that its judge asks of the entries, or that they are refused.
-- Assumes nothing.
use Rattle.std.specs.Prelude.{ℕ, ◌+◌, ◌≤◌, ◌<◌, ◌≡◌, List, [], ◌∷◌, Bool, true, false, cond, ◌&&◌, leb, eqb, length, Option, Some, None}
use Rattle.spans.specs.Span.{part_or}
use Rattle.numbers.specs.Number.{be_at}
use Rattle.order.specs.Bounds.{below_hi, spanned}
use Rattle.frames.specs.Limits.{max_entries}
use Rattle.build_sources.specs.Lists.{first_of}
use Rattle.build_sources.specs.Source.{Entry, entries, well_formed, only}
use Rattle.build_sources.specs.Judged.{rising}
use Rattle.build_image.specs.Image.{index_sums}
use Rattle.build_sweep.specs.declared.Tally.{Tally}
use Rattle.build_sweep.specs.declared.Pages.{Pages}
use Rattle.build_sweep.specs.Tally.{nothing, tally_of}
use Rattle.build_sweep.specs.Pages.{pages_of}
use Rattle.build_sweep.specs.Bounds.{Bounded}

-- the entries of a list (0 of records, 1 of an index page); they lie in the list alone
abbrev pub listed : List ℕ → ℕ → List Entry
listed l source = entries l [] (first_of source)

-- whether a list ends well, rises, and has no more entries than a page
unfoldable pub plain : List ℕ → ℕ → Bool
unfolding entries well_formed rising
plain l source = well_formed l [] (first_of source) && (rising (listed l source) && leb (length (listed l source)) max_entries)

-- the last key of some entries
unfoldable pub last_key : List ℕ → List Entry → List ℕ
last_key k [] = k
last_key k (e ∷ es) = last_key e.key es

-- a list that rises, seen whole: how many entries, and where the last key stands
pub record Ended (l : List ℕ) (source n kat klen : ℕ) : Type 0 where
  pub well : well_formed l [] (first_of source) ≡ true
  pub rises : rising (listed l source) ≡ true
  pub count : n ≡ length (listed l source)
  pub few : n ≤ max_entries
  pub last : 0 < length (listed l source) → part_or l kat klen ≡ last_key [] (listed l source)

-- whether the boundaries span the first key, which stands at 7, and the last one; where there is none, whether lo is below hi
unfoldable pub spans_ends : List ℕ → ℕ → ℕ → ℕ → List ℕ → List ℕ → Bool
unfolding below_hi part_or
spans_ends l n kat klen lo hi = cond (eqb n 0) (below_hi lo hi) (spanned lo hi (part_or l 7 (be_at 2 l 5)) (part_or l kat klen))

pub record Accepted (l : List ℕ) (p at limit budget : ℕ) (t : Tally) (g : Pages) (kat klen : ℕ) : Type 0 where
  pub ended : Ended l 0 (t.heads + t.olds) kat klen
  pub tally : t ≡ tally_of limit p nothing (listed l 0)
  pub pages : g ≡ pages_of limit budget 0 at (only true (listed l 0))
  pub bounded : Bounded t max_entries
  pub end : g.end ≤ at + 12890734500
  pub count : g.count ≤ max_entries

abbrev pub SweptBy : List ℕ → ℕ → ℕ → ℕ → ℕ → Option (Tally × Pages × ℕ × ℕ) → Type 0
SweptBy l p at limit budget (Some (t, g, kat, klen)) = Accepted l p at limit budget t g kat klen
SweptBy l p at limit budget None = plain l 0 ≡ false

-- the same of an index list: n entries, whose records take s bytes
pub record IndexAccepted (l : List ℕ) (p n s kat klen : ℕ) : Type 0 where
  pub ended : Ended l 1 n kat klen
  pub sums : s ≡ index_sums p (listed l 1)
  pub small : s ≤ 269283315

abbrev pub IndexSweptBy : List ℕ → ℕ → Option (ℕ × ℕ × ℕ × ℕ) → Type 0
IndexSweptBy l p (Some (n, s, kat, klen)) = IndexAccepted l p n s kat klen
IndexSweptBy l p None = plain l 1 ≡ false
