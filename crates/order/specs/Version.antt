-- The order of versions: larger txid, then larger cmd, is newer.
-- Assumes nothing.
use Rattle.std.specs.Prelude.{ℕ, Bool, ◌&&◌, ◌||◌, ltb, eqb}
use Rattle.order.specs.declared.Ver.{Ver}

abbrev pub ver_of : ℕ → ℕ → Ver
ver_of t c = record { txid = t; cmd = c }

unfoldable pub newer_than : Ver → Ver → Bool
newer_than a b = ltb b.txid a.txid || (eqb a.txid b.txid && ltb b.cmd a.cmd)
