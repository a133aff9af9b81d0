-- What stands in a record behind its key, read without a test: the history, the value; and the room that such a read needs.
-- Assumes nothing.
use Rattle.std.specs.Prelude.{ℕ, ◌+◌, ◌≤◌, ◌<◌, ◌≡◌, List, Bool, true, cond, length, Some}
use Rattle.numbers.specs.Number.{le_at}
use Rattle.frames.specs.declared.Body.{Body}
use Rattle.frames.specs.Layout.{Inside, addr, null_addr}
use Rattle.values.specs.declared.HistRef.{HistRef}
use Rattle.values.specs.Vals.{hist_of, no_hist}
use Rattle.records.specs.declared.Rec.{Rec}
use Rattle.records.specs.Records.{rec_at}
use Rattle.build_rows.specs.declared.Bytes.{Bytes}
use Rattle.build_rows.specs.declared.KeyHere.{KeyHere}

-- the fourteen bytes of a history, where there is one, and what follows them
unfoldable pub hist_at : List ℕ → Bool → ℕ → HistRef
hist_at w has at = cond has (hist_of (le_at 8 w at) (le_at 2 w (at + 8)) (le_at 4 w (at + 10))) no_hist

unfoldable pub behind_of : Bool → ℕ → ℕ
behind_of has at = cond has (at + 14) at

abbrev pub HistFits : List ℕ → Bool → ℕ → Type 0
HistFits w has at = has ≡ true → at + 14 ≤ length w

-- a value's size, and its bytes there or in a remote frame, behind the frame's header and the size
unfoldable pub bytes_at : List ℕ → Bool → ℕ → Bytes
bytes_at w far at =
    cond far (record { at = le_at 8 w (at + 4) + 40; len = le_at 4 w at; remote = addr (le_at 8 w (at + 4)) })
    (record { at = at + 4; len = le_at 4 w at; remote = null_addr })

pub record BytesFit (w : List ℕ) (far : Bool) (at : ℕ) : Type 0 where
  pub size : at + 4 ≤ length w
  pub address : far ≡ true → at + 12 ≤ length w
  pub frame : far ≡ true → le_at 8 w (at + 4) + 40 ≤ length w

-- a slot of a leaf or an index page, whose record can be read
pub record Readable (w : List ℕ) (b : Body) (i : ℕ) : Type 0 where
  pub inside : Inside w b
  pub kind : b.kind < 2
  pub rec : Rec
  pub read : rec_at w b i ≡ Some rec

-- where its key begins, behind its length, and where it ends
pub record KeyIs (x : KeyHere) (r : Rec) : Type 0 where
  pub begins : x.at ≡ r.ver_at
  pub ends : x.at + x.len ≡ r.rest_at + r.rest_len

abbrev pub KeyAt : List ℕ → Body → ℕ → KeyHere → Type 0
KeyAt w b i x = (r : Rec) → rec_at w b i ≡ Some r → KeyIs x r
