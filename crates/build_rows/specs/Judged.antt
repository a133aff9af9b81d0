-- A page whose records were judged, and what is read of its records.
-- Assumes nothing.
use Rattle.std.specs.Prelude.{ℕ, ◌≡◌, List, true, Some}
use Rattle.numbers.specs.Number.{le_at}
use Rattle.order.specs.declared.Ver.{Ver}
use Rattle.frames.specs.declared.Addr.{Addr}
use Rattle.frames.specs.declared.Body.{Body}
use Rattle.frames.specs.Layout.{Inside, page_id}
use Rattle.records.specs.declared.Rec.{Rec}
use Rattle.records.specs.Records.{rec_at}
use Rattle.pages.specs.Sound.{slots_ok, chain_from, chains_ok}
use Rattle.values.specs.declared.HistRef.{HistRef}
use Rattle.build_rows.specs.declared.Bytes.{Bytes}
use Rattle.build_rows.specs.declared.Old.{Old}
use Rattle.build_rows.specs.declared.Head.{Head}
use Rattle.build_rows.specs.declared.Child.{Child}

-- a leaf (kind 0) or an index page (kind 1): every slot can be read, every history resolves
pub record Judged (w : List ℕ) (b : Body) (kind : ℕ) : Type 0 where
  pub inside : Inside w b
  pub is : b.kind ≡ kind
  pub slots : slots_ok w b ≡ true
  pub chains : chains_ok w b ≡ true

-- n old versions stand from a slot on
abbrev pub Runs : List ℕ → ℕ → Addr → ℕ → Type 0
Runs w n a i = (t : Ver) × (chain_from w n a i t ≡ true)

-- what is read of a record
abbrev pub bytes_of : Rec → Bytes
bytes_of r = record { at = r.val_at; len = r.val_len; remote = r.remote }

abbrev pub old_of : Rec → Old
old_of r = record { ver_at = r.ver_at; bytes = bytes_of r }

abbrev pub head_of : Rec → Head
head_of r = record { ver_at = r.ver_at; rest_len = r.rest_len; hist = r.hist; bytes = bytes_of r }

-- the head of slot i of a leaf
abbrev pub HeadAt : List ℕ → Body → ℕ → Head → Type 0
HeadAt w b i x = (r : Rec) → rec_at w b i ≡ Some r → x ≡ head_of r

-- its history alone
abbrev pub PastAt : List ℕ → Body → ℕ → HistRef → Type 0
PastAt w b i h = (r : Rec) → rec_at w b i ≡ Some r → h ≡ r.hist

-- the child of slot i of an index page
abbrev pub ChildAt : List ℕ → Body → ℕ → Child → Type 0
ChildAt w b i x =
    (r : Rec) → rec_at w b i ≡ Some r → x ≡ record { rest_at = r.rest_at; rest_len = r.rest_len; page = page_id (le_at 8 w r.val_at) }
