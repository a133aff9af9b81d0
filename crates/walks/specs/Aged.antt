-- The versions of what is left of a head's history, by their keys alone: a walk's step without the value.
-- Assumes nothing.
use Rattle.std.specs.Prelude.{ℕ, ◌+◌, ◌-◌, List, cond, length, eqb, Option, Some, None}
use Rattle.values.specs.Keys.{ver_in}
use Rattle.records.specs.Records.{key_at_slot}
use Rattle.walks.specs.declared.Sheet.{Sheet}
use Rattle.walks.specs.declared.OldPlace.{OldPlace}
use Rattle.walks.specs.Walk.{older_of, body_in, fits_in}
use Rattle.walks.specs.Turned.{turned_at}
use Rattle.frames.specs.declared.Addr.{Addr}
use Rattle.values.specs.declared.KeyParts.{KeyParts}
use Rattle.walks.specs.declared.Aged.{Aged}

-- the key of a slot of a history page that a walk carries
unfoldable pub key_old : List ℕ → Sheet → ℕ → Option KeyParts
key_old s v i = cond (fits_in (length s) v) (key_at_slot s (body_in v 2) i) None

-- "History key: version only"; one less behind it
abbrev pub aged_key : List ℕ → OldPlace → Option KeyParts → Option Aged
aged_key s p (Some k) = Some (Aged.Is (ver_in s k.ver_at) p.slot (older_of p.page p.link (p.slot + 1) (p.left - 1)))
aged_key s p None = None

unfoldable pub aged_in : List ℕ → OldPlace → Option Aged
aged_in s p = aged_key s p (key_old s p.page p.slot)

-- where the walk's step finds it
abbrev pub aged_of : List ℕ → Option (OldPlace × Addr) → Option Aged
aged_of s (Some (p, a)) = aged_in s p
aged_of s None = None

unfoldable pub aged_at : List ℕ → OldPlace → Option Aged
aged_at s p = cond (eqb p.left 0) (Some Aged.End) (aged_of s (turned_at s p))
