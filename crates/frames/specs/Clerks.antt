-- What the clerk hands out, and the clerk after it.
-- Assumes nothing.
use Rattle.std.specs.Prelude.{ℕ, ◌+◌, ◌-◌, cond, leb}
use Rattle.frames.specs.declared.Clerk.{Clerk}
use Rattle.frames.specs.declared.Taken.{Taken}
use Rattle.frames.specs.Layout.{addr, null_addr}

-- the next free address, and the mark behind the bytes taken
abbrev pub gives : Clerk → ℕ → Taken
gives c n = record { addr = c.next; clerk = record { next = addr (c.next.0 + n); limit = c.limit } }

-- no address, and the clerk as it was
abbrev pub refuses : Clerk → Taken
refuses c = record { addr = null_addr; clerk = c }

unfoldable pub taken_of : Clerk → ℕ → Taken
taken_of c n = cond (leb c.next.0 c.limit) (cond (leb n (c.limit - c.next.0)) (gives c n) (refuses c)) (refuses c)
