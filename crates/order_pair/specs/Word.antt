-- One number for a string of fewer than eight bytes.
-- Assumes nothing.
use Rattle.std.specs.Prelude.{ℕ, ◌+◌, ◌-◌, ◌*◌, List, cond, leb, eqb, length}
use Rattle.numbers.specs.Number.{be_at}

-- its first and its last four bytes, or two, which may overlap; its one byte; nothing
unfoldable pub word_of : List ℕ → ℕ
word_of t =
    cond (leb 4 (length t)) (4294967296 * be_at 4 t 0 + be_at 4 t (length t - 4))
    (cond (leb 2 (length t)) (65536 * be_at 2 t 0 + be_at 2 t (length t - 2)) (cond (eqb (length t) 1) (be_at 1 t 0) 0))
