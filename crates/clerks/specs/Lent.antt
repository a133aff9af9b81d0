-- The clerk that a call with plain parameters makes and lends.
-- Assumes nothing.
use Rattle.std.specs.Prelude.{ℕ}
use Rattle.frames.specs.declared.Addr.{Addr}
use Rattle.frames.specs.declared.Clerk.{Clerk}

abbrev pub clerk_of : Addr → ℕ → Clerk
clerk_of next limit = record { next = next; limit = limit }
