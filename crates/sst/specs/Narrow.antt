-- What the turns over keys as long as the probe tell the halving.
-- Assumes nothing.
use Rattle.std.specs.Prelude.{ℕ, ◌+◌, ◌-◌, ◌≤◌, ◌<◌, ◌≡◌, cond, List, length, Option, Some}
use Rattle.spans.specs.Span.{part}
use Rattle.order.specs.Order.{cmp_bytes}
use Rattle.frames.specs.declared.Body.{Body}
use Rattle.frames.specs.Limits.{max_key}
use Rattle.values.specs.Keys.{skip_of, key_parts}
use Rattle.records.specs.Records.{key_at_slot}
use Rattle.sst.specs.declared.Want.{Want}
use Rattle.sst.specs.declared.Stand.{Stand}
use Rattle.sst.specs.Halve.{lowered, mid, halve}
use Rattle.sst.specs.Search.{newer_at, key_cmp}
use Rattle.std.specs.declared.cmp.Ordering.{Ordering}

-- a number that, where it is a byte, is the one that stands before a key rest of n bytes ("LEB128 length of the rest, version, key without the page's
-- prefix"; an index key has no version), "whole key at most 4,096"
pub record Marks (b : Body) (n mark : ℕ) : Type 0 where
  pub small : mark ≤ 256
  pub short : mark < 256 → mark < 128
  pub kind : mark < 256 → b.kind ≡ 2 → ⊥
  pub sum : mark < 256 → mark ≡ skip_of b.kind + n
  pub whole : mark < 256 → b.prefix_len + n ≤ max_key

-- a record's start that was found by the mark is that of slot i, whose key has n bytes
pub record MarkedAt (s : List ℕ) (b : Body) (i mark : ℕ) (r : Option ℕ) : Type 0 where
  pub key : (n p : ℕ) → Marks b n mark → r ≡ Some p → key_at_slot s b i ≡ Some (key_parts (p + 1) (p + 1 + skip_of b.kind) n)

-- a key that is the probe, its version at a place
abbrev pub equal_at : List ℕ → ℕ → ℕ → Want → Option Ordering
equal_at s kind at w = cond w.lower (lowered (newer_at s kind at w.ver) (Some Ordering.Equal)) (Some Ordering.Equal)

-- a record's start that was met is that of slot i, whose key is the probe
pub record IsMet (s : List ℕ) (b : Body) (rest : List ℕ) (i : ℕ) (met : Option ℕ) : Type 0 where
  pub key : (p : ℕ) → met ≡ Some p → key_at_slot s b i ≡ Some (key_parts (p + 1) (p + 1 + skip_of b.kind) (length rest))
  pub same : (p : ℕ) → met ≡ Some p → cmp_bytes (part s (p + 1 + skip_of b.kind) (length rest)) rest ≡ Ordering.Equal

-- a halving of n slots that goes on from one stand ends as from another before it
pub record Goes (f : ℕ → Option Ordering) (n lo₀ hi₀ reads₀ lo hi reads : ℕ) : Type 0 where
  pub inside : hi ≤ n
  pub fuel : hi - lo + reads ≤ n
  pub less : hi - lo ≤ hi₀ - lo₀
  pub ends : halve f (n - reads) lo hi reads ≡ halve f (n - reads₀) lo₀ hi₀ reads₀

pub record Narrowed (s : List ℕ) (b : Body) (rest : List ℕ) (from to : Stand) : Type 0 where
  pub goes : (w : Want) → Goes (key_cmp s b rest w) b.elems from.lo from.hi from.reads to.lo to.hi to.reads
  pub met : IsMet s b rest (mid to.lo to.hi) to.met
