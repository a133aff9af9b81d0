-- Where a page's boundaries and prefix stand, and the part of the arena at a place.
-- Assumes nothing.
use Rattle.std.specs.Prelude.{ℕ, ◌+◌, ◌*◌, List, [], cond, eqb, Option, Some, None, Result, Ok, Err}
use Rattle.spans.specs.Span.{part_or}
use Rattle.frames.specs.declared.Addr.{Addr}
use Rattle.frames.specs.declared.Body.{Body}
use Rattle.frames.specs.declared.Refusal.{Refusal}
use Rattle.frames.specs.Layout.{base_len, open_at}
use Rattle.pages.specs.declared.Place.{Place}
use Rattle.pages.specs.declared.Bounds.{Bounds}

abbrev pub place : ℕ → ℕ → Place
place at n = record { at = at; len = n }

-- "base header, elems slots of u32, lo, hi, records"; the prefix is the first bytes of lo
unfoldable pub bounds_of : Body → Bounds
bounds_of b =
    record {
      lo = place (b.at + base_len + 4 * b.elems) b.lo_len;
      hi = place (b.at + base_len + 4 * b.elems + b.lo_len) b.hi_len;
      prefix = place (b.at + base_len + 4 * b.elems) b.prefix_len;
      sibling = b.sibling;
    }

abbrev pub bounds_read : Option Body → Result Bounds Refusal
bounds_read (Some b) = cond (eqb b.kind 2) (Err Refusal.BadFrame) (Ok (bounds_of b))
bounds_read None = Err Refusal.BadFrame

unfoldable pub bounds_at : List ℕ → Addr → Result Bounds Refusal
bounds_at s a = bounds_read (open_at s a)

-- "a place outside it gives the empty part"
abbrev pub part_in : List ℕ → Place → List ℕ
part_in s p = part_or s p.at p.len

-- the boundaries and the prefix themselves; nothing where the page is refused
abbrev pub boundary_of : List ℕ → (Bounds → Place) → Result Bounds Refusal → List ℕ
boundary_of s f (Ok b) = part_in s (f b)
boundary_of s f (Err r) = []

unfoldable pub lo_at : List ℕ → Addr → List ℕ
lo_at s a = boundary_of s (λ b. b.lo) (bounds_at s a)

unfoldable pub hi_at : List ℕ → Addr → List ℕ
hi_at s a = boundary_of s (λ b. b.hi) (bounds_at s a)

unfoldable pub prefix_at : List ℕ → Addr → List ℕ
prefix_at s a = boundary_of s (λ b. b.prefix) (bounds_at s a)
