-- What a page says: its boundaries, prefix and sibling and its records in order, or nothing where it is not sound.
-- Assumes nothing.
use Rattle.std.specs.Prelude.{ℕ, zero, suc, ◌+◌, ◌*◌, List, [], ◌∷◌, ◌++◌, map, Bool, false, cond, eqb, Option, Some, None, Result, Ok, Err}
use Rattle.spans.specs.Span.{part}
use Rattle.numbers.specs.Number.{le_at}
use Rattle.order.specs.declared.Ver.{Ver}
use Rattle.order.specs.Bounds.{bounded}
use Rattle.frames.specs.declared.Addr.{Addr}
use Rattle.frames.specs.declared.PageId.{PageId}
use Rattle.frames.specs.declared.Body.{Body}
use Rattle.frames.specs.declared.Refusal.{Refusal}
use Rattle.frames.specs.Layout.{base_len, page_id, open_at}
use Rattle.records.specs.declared.Rec.{Rec}
use Rattle.values.specs.Keys.{ver_in}
use Rattle.records.specs.Records.{rec_at}
use Rattle.pages.specs.Sound.{slots_ok, old_at, chains_ok, hints_ok}
use Rattle.pages.specs.declared.OldVersion.{OldVersion}

-- an older version and its value
pub record Older : Type 0 where
  pub ver : Ver
  pub value : List ℕ

-- a leaf's head: a whole key with its newest version, and the older ones behind it, newest first
pub record Head : Type 0 where
  pub key : List ℕ
  pub ver : Ver
  pub value : List ℕ
  pub olds : List Older

-- an index page's head: a whole key and the page that it leads to
pub record Child : Type 0 where
  pub key : List ℕ
  pub page : PageId

pub data Rows : Type 0 where
  leaf : List Head → Rows
  index : List Child → Rows

pub record Page : Type 0 where
  pub lo : List ℕ
  pub hi : List ℕ
  pub prefix : List ℕ
  pub sibling : PageId
  pub rows : Rows

pub data Said : Type 0 where
  nothing : Said
  says : Page → Said

-- ---- the reading, total: it is the meaning where the page is sound

-- n old versions from a slot on
abbrev pub olds_of : List ℕ → (Addr → ℕ → List Older) → Option OldVersion → List Older
olds_of s go (Some o) = (record { ver = ver_in s o.rec.ver_at; value = part s o.rec.val_at o.rec.val_len }) ∷ go o.page (o.slot + 1)
olds_of s go None = []

unfoldable pub olds_from : List ℕ → ℕ → Addr → ℕ → List Older
olds_from s zero a i = []
olds_from s (suc k) a i = olds_of s (olds_from s k) (old_at s a i)

unfoldable pub prefix_of : List ℕ → Body → List ℕ
prefix_of s b = part s (b.at + base_len + 4 * b.elems) b.prefix_len

-- the whole key of a record
abbrev pub key_of : List ℕ → Body → Rec → List ℕ
key_of s b r = prefix_of s b ++ part s r.rest_at r.rest_len

unfoldable pub head_of : List ℕ → Body → Rec → Head
head_of s b r =
    record {
      key = key_of s b r;
      ver = ver_in s r.ver_at;
      value = part s r.val_at r.val_len;
      olds = olds_from s r.hist.count r.hist.page r.hist.slot;
    }

unfoldable pub child_of : List ℕ → Body → Rec → Child
child_of s b r = record { key = key_of s b r; page = page_id (le_at 8 s r.val_at) }

-- the records of k slots from i on
abbrev pub rows_of : {A : Type 0} → (Rec → A) → List A → Option Rec → List A
rows_of f rest (Some r) = f r ∷ rest
rows_of f rest None = rest

unfoldable pub rows_from : {A : Type 0} → (Rec → A) → List ℕ → Body → ℕ → ℕ → List A
rows_from f s b zero i = []
rows_from f s b (suc k) i = rows_of f (rows_from f s b k (i + 1)) (rec_at s b i)

abbrev pub heads_from : List ℕ → Body → ℕ → ℕ → List Head
heads_from s b k i = rows_from (head_of s b) s b k i

abbrev pub children_from : List ℕ → Body → ℕ → ℕ → List Child
children_from s b k i = rows_from (child_of s b) s b k i

unfoldable pub page_says : List ℕ → Body → Page
page_says s b =
    record {
      lo = part s (b.at + base_len + 4 * b.elems) b.lo_len;
      hi = part s (b.at + base_len + 4 * b.elems + b.lo_len) b.hi_len;
      prefix = prefix_of s b;
      sibling = b.sibling;
      rows = cond (eqb b.kind 1) (index (children_from s b b.elems 0)) (leaf (heads_from s b b.elems 0));
    }

-- ---- sound

abbrev pub keys_of : Rows → List (List ℕ)
keys_of (leaf hs) = map (λ h. h.key) hs
keys_of (index cs) = map (λ c. c.key) cs

-- order 4, "Sound frames keep the same rule": lo below hi, each key between them
abbrev pub page_bounded : Page → Bool
page_bounded p = bounded p.lo p.hi (keys_of p.rows)

-- a leaf or index page is sound; "a history page .. where a page is wanted" is not
unfoldable pub sound_body : List ℕ → Body → Bool
sound_body s b =
    cond (eqb b.kind 2) false (cond (slots_ok s b) (cond (chains_ok s b) (cond (hints_ok s b) (page_bounded (page_says s b)) false) false) false)

abbrev pub meaning_of : List ℕ → Option Body → Said
meaning_of s (Some b) = cond (sound_body s b) (says (page_says s b)) nothing
meaning_of s None = nothing

-- what the page at an address says, or nothing where it is not sound
unfoldable pub meaning : List ℕ → Addr → Said
meaning s a = meaning_of s (open_at s a)

-- "A check call says so or 4"
abbrev pub check_of : Said → Result Unit Refusal
check_of nothing = Err Refusal.BadFrame
check_of (says p) = Ok tt
