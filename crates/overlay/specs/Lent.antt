-- A part lent on: its bytes, and that they are the buffer's own memory.
-- Assumes nothing.
use Rattle.std.specs.Prelude.{ℕ, ◌+◌, ◌-◌, List, cond, ◌≡◌, length, leb, Result, Ok, Err}
use Rattle.std.specs.Borrow.{Bor}
use Rattle.pages.specs.declared.Place.{Place}
use Rattle.pages.specs.Boundaries.{place, part_in}
use Rattle.frames.specs.declared.Refusal.{Refusal}
use Rattle.overlay.specs.declared.Laid.{Laid}

-- where the part starts: at its place, or at the start for a place outside
unfoldable pub start_of : ℕ → Place → ℕ
start_of n p = cond (leb p.at n) (cond (leb p.len (n - p.at)) p.at 0) 0

-- r is that part of s itself: its bytes, in s's own memory, from there on
pub record PartIs (s : Bor (List ℕ)) (p : Place) (r : Bor (List ℕ)) : Type 0 where
  pub bytes : r.now ≡ part_in s.now p
  pub block : r.ref_ptr.0 ≡ s.ref_ptr.0
  pub offset : r.ref_ptr.1 ≡ s.ref_ptr.1 + start_of (length s.now) p

-- "its value is handed back from the delta's buffer; otherwise the page's. .. None or a refusal gives the empty part"
abbrev pub buffer_of : Bor (List ℕ) → Bor (List ℕ) → Result Laid Refusal → Bor (List ℕ)
buffer_of s t (Ok (Laid.Delta p)) = t
buffer_of s t (Ok (Laid.Page p)) = s
buffer_of s t (Ok Laid.Nothing) = s
buffer_of s t (Err r) = s

abbrev pub place_of : Result Laid Refusal → Place
place_of (Ok (Laid.Delta p)) = p
place_of (Ok (Laid.Page p)) = p
place_of (Ok Laid.Nothing) = place 0 0
place_of (Err r) = place 0 0

abbrev pub LentIs : Bor (List ℕ) → Bor (List ℕ) → Result Laid Refusal → Bor (List ℕ) → Type 0
LentIs s t l r = PartIs (buffer_of s t l) (place_of l) r
