-- What a page holds, as entries: each head, then its old versions, with the addresses of the remotes that they keep; an index page's children.
-- Assumes nothing.
use Rattle.std.specs.Prelude.{ℕ, zero, suc, ◌+◌, List, [], ◌∷◌, ◌++◌, true, false, cond, eqb, Option, Some, None}
use Rattle.spans.specs.Span.{part}
use Rattle.numbers.specs.Number.{le_at}
use Rattle.order.specs.Version.{ver_of}
use Rattle.frames.specs.declared.Addr.{Addr}
use Rattle.frames.specs.declared.Body.{Body}
use Rattle.frames.specs.Layout.{open_at}
use Rattle.values.specs.Keys.{ver_in}
use Rattle.records.specs.declared.Rec.{Rec}
use Rattle.records.specs.Records.{rec_at}
use Rattle.pages.specs.Sound.{old_at}
use Rattle.pages.specs.Meaning.{key_of}
use Rattle.build_sources.specs.Source.{Entry}
use Rattle.pages.specs.declared.OldVersion.{OldVersion}

-- an old version of a key
unfoldable pub old_entry : List ℕ → List ℕ → Rec → Entry
old_entry w key r =
    record { old = true; key = key; ver = ver_in w r.ver_at; val = part w r.val_at r.val_len; kept = r.remote.0; page = 0 }

-- n of them, from a slot of a history page on
abbrev pub olds_of : List ℕ → List ℕ → (Addr → ℕ → List Entry) → Option OldVersion → List Entry
olds_of w key go (Some o) = old_entry w key o.rec ∷ go o.page (o.slot + 1)
olds_of w key go None = []

unfoldable pub old_entries : List ℕ → List ℕ → ℕ → Addr → ℕ → List Entry
old_entries w key zero a i = []
old_entries w key (suc k) a i = olds_of w key (old_entries w key k) (old_at w a i)

-- a head
unfoldable pub head_entry : List ℕ → Body → Rec → Entry
head_entry w b r =
    record { old = false; key = key_of w b r; ver = ver_in w r.ver_at; val = part w r.val_at r.val_len; kept = r.remote.0; page = 0 }

-- a head and its old versions
unfoldable pub head_entries : List ℕ → Body → Rec → List Entry
head_entries w b r = head_entry w b r ∷ old_entries w (key_of w b r) r.hist.count r.hist.page r.hist.slot

-- a child of an index page: it has no version and no value
unfoldable pub child_entry : List ℕ → Body → Rec → Entry
child_entry w b r = record { old = false; key = key_of w b r; ver = ver_of 0 0; val = []; kept = 0; page = le_at 8 w r.val_at }

-- what k slots from i on hold
abbrev pub slot_of : (Rec → List Entry) → List Entry → Option Rec → List Entry
slot_of f rest (Some r) = f r ++ rest
slot_of f rest None = rest

unfoldable pub slot_entries : (Rec → List Entry) → List ℕ → Body → ℕ → ℕ → List Entry
slot_entries f w b zero i = []
slot_entries f w b (suc k) i = slot_of f (slot_entries f w b k (i + 1)) (rec_at w b i)

abbrev pub leaf_entries : List ℕ → Body → ℕ → ℕ → List Entry
leaf_entries w b k i = slot_entries (head_entries w b) w b k i

abbrev pub index_entries : List ℕ → Body → ℕ → ℕ → List Entry
index_entries w b k i = slot_entries (λ r. child_entry w b r ∷ []) w b k i

-- all of the page at an address
abbrev pub body_entries : List ℕ → Body → List Entry
body_entries w b = cond (eqb b.kind 1) (index_entries w b b.elems 0) (leaf_entries w b b.elems 0)

abbrev pub open_entries : List ℕ → Option Body → List Entry
open_entries w (Some b) = body_entries w b
open_entries w None = []

unfoldable pub page_entries : List ℕ → Addr → List Entry
page_entries w a = open_entries w (open_at w a)
