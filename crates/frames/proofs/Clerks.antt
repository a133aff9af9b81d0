-- What the clerk hands out: addresses that follow one another and end in the arena.
-- Assumes nothing.
use Prim.Native.Nat.{ℕ, ◌+◌, ◌-◌, ◌≤◌, ◌<◌}
use mathlib.Core.Path.{◌≡◌, refl, ap, ◌∙◌}
use mathlib.Core.Bool.{Bool, true, false, cond}
use native.Mathlib.Omega.{arith}
use native.Mathlib.Decide.{dec_le}
use native.Mathlib.Nat.{lt_of_not-le}
use borrow.Author.Tests.{le-leb, lt-leb}
use lib.Dec.{leb}
use Rattle.frames.specs.declared.Clerk.{Clerk}
use Rattle.frames.specs.declared.Taken.{Taken}
use Rattle.frames.specs.Clerks.{gives, refuses, taken_of}

-- with room, the next free address
pub take-room : (c : Clerk) (n : ℕ) → c.next.0 + n ≤ c.limit → taken_of c n ≡ gives c n
unfolding taken_of
take-room c n h = rw (le-leb c.next.0 c.limit (omega arith), le-leb n (c.limit - c.next.0) (omega arith))

-- without, none
pub take_none : (c : Clerk) (n : ℕ) → c.limit < c.next.0 + n → taken_of c n ≡ refuses c
unfolding taken_of
take_none c n h =
    elim (dec_le c.next.0 c.limit) [
      | no p ↦ rw (lt-leb c.next.0 c.limit (lt_of_not-le p))
      | yes p ↦ rw (le-leb c.next.0 c.limit p, lt-leb n (c.limit - c.next.0) (omega arith))
    ]

-- one frame and then another: the second stands where the first ends
pub take_two : (c : Clerk) (m n : ℕ) → c.next.0 + m + n ≤ c.limit
    → ((taken_of c m).addr.0 ≡ c.next.0) × ((taken_of (taken_of c m).clerk n).addr.0 ≡ c.next.0 + m) × ((taken_of (taken_of c m).clerk n).clerk.next.0 ≡ c.next.0 + m + n)
take_two c m n h =
    let e = take-room c m (omega arith) in
    let f : taken_of (taken_of c m).clerk n ≡ gives (gives c m).clerk n = ap (λ (t : Taken). taken_of t.clerk n) e ∙ take-room (gives c m).clerk n h in
    (ap (λ (t : Taken). t.addr.0) e, ap (λ (t : Taken). t.addr.0) f, ap (λ (t : Taken). t.clerk.next.0) f)
