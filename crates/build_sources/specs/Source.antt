-- A source of entries: what its step finds, the entries from a cursor on, and whether they end well. A source lies in a lent slice, l,
-- or in the arena below the next free address, w.
-- Assumes nothing.
use Rattle.std.specs.Prelude.{ℕ, zero, suc, ◌+◌, ◌-◌, ◌≤◌, ◌≡◌, List, [], ◌∷◌, Bool, true, false, not, cond, length, drop, leb, eqb, Option, Some, None}
use Rattle.spans.specs.Span.{part}
use Rattle.order.specs.declared.Ver.{Ver}
use Rattle.frames.specs.Limits.{max_key, max_value}
use Rattle.build_sources.specs.declared.Cursor.{Cursor}
use Rattle.build_sources.specs.declared.EntryAt.{EntryAt}
use Rattle.build_sources.specs.declared.EntryRead.{EntryRead}
use Rattle.build_sources.specs.Keys.{key_bytes, src_of}
use Rattle.build_sources.specs.Lists.{spot_at}
use Rattle.build_sources.specs.Pages.{pages_next, pages_left}

-- a record: whole key, version, value; the address of a remote that is kept, or 0; in an index list the page id
pub record Entry : Type 0 where
  pub old : Bool
  pub key : List ℕ
  pub ver : Ver
  pub val : List ℕ
  pub kept : ℕ
  pub page : ℕ

-- ---- any source, by its step nx and the entry that an item stands for, en

unfoldable pub after {ℓ} : {X : Type ℓ} → EntryRead → (EntryAt → Cursor → X) → X → X → X
after (EntryRead.Got i c) go e b = go i c
after EntryRead.End go e b = e
after EntryRead.Bad go e b = b

unfoldable pub list_f : (Cursor → EntryRead) → (EntryAt → Entry) → ℕ → Cursor → List Entry
unfolding after
list_f nx en zero c = []
list_f nx en (suc f) c = after (nx c) (λ i d. en i ∷ list_f nx en f d) [] []

unfoldable pub well_f : (Cursor → EntryRead) → ℕ → Cursor → Bool
unfolding after
well_f nx zero c = false
well_f nx (suc f) c = after (nx c) (λ i d. well_f nx f d) true false

-- ---- the sources there are

abbrev pub past_of : Cursor → ℕ → EntryAt → Cursor
past_of c past i = record { source = c.source; seen = true; key = i.key; at = past; walk = c.walk; pre = c.pre; then = c.then }

unfoldable pub step_of : Cursor → Option (EntryAt × ℕ) → EntryRead
step_of c (Some (i, past)) = EntryRead.Got i (past_of c past i)
step_of c None = EntryRead.Bad

-- a list ends where its slice ends
unfoldable pub list_next : List ℕ → Cursor → EntryRead
unfolding step_of spot_at
list_next l c = cond (leb (length l) c.at) EntryRead.End (step_of c (spot_at l c))

unfoldable pub next_of : List ℕ → List ℕ → Cursor → EntryRead
unfolding list_next pages_next
next_of l w c = cond (eqb c.source 2) (pages_next w c) (list_next l c)

unfoldable pub left_of : List ℕ → List ℕ → Cursor → ℕ
unfolding pages_left
left_of l w c = cond (eqb c.source 2) (pages_left c) (length l - c.at)

-- an item lies in its slice, and keeps document 01's lengths
pub record Placed (l w : List ℕ) (i : EntryAt) : Type 0 where
  pub pre : i.key.pat + i.key.plen ≤ length (src_of l w i.footing)
  pub rest : i.key.kat + i.key.klen ≤ length (src_of l w i.footing)
  pub val : i.vat + i.vlen ≤ length (src_of l w i.footing)
  pub ksmall : i.key.plen + i.key.klen ≤ max_key
  pub vsmall : i.vlen ≤ max_value

-- what an item stands for
unfoldable pub entry_of : List ℕ → List ℕ → EntryAt → Entry
unfolding key_bytes part
entry_of l w i =
    record {
      old = i.old;
      key = key_bytes (src_of l w i.footing) i.key;
      ver = i.ver;
      val = part (src_of l w i.footing) i.vat i.vlen;
      kept = i.kept.0;
      page = i.page.0;
    }

-- the entries from a cursor on, up to the end or the first that is none
unfoldable pub entries : List ℕ → List ℕ → Cursor → List Entry
unfolding list_f next_of entry_of left_of
entries l w c = list_f (next_of l w) (entry_of l w) (suc (left_of l w c)) c

-- whether they go on to the end
unfoldable pub well_formed : List ℕ → List ℕ → Cursor → Bool
unfolding well_f next_of left_of
well_formed l w c = well_f (next_of l w) (suc (left_of l w c)) c

-- ---- old versions alone (b true), or heads alone (b false), in order

abbrev pub wanted : Bool → Bool → Bool
wanted true o = o
wanted false o = not o

unfoldable pub only : Bool → List Entry → List Entry
only b [] = []
only b (e ∷ es) = cond (wanted b e.old) (e ∷ only b es) (only b es)

abbrev pub olds : List Entry → List Entry
olds es = only true es

abbrev pub heads : List Entry → List Entry
heads es = only false es

-- what a step to the next wanted entry says
pub record Chosen (l w : List ℕ) (b : Bool) (c : Cursor) (i : EntryAt) (d : Cursor) : Type 0 where
  pub list : only b (entries l w c) ≡ entry_of l w i ∷ only b (entries l w d)
  pub placed : Placed l w i
  pub klen : length (entry_of l w i).key ≡ i.key.plen + i.key.klen
  pub vlen : length (entry_of l w i).val ≡ i.vlen

abbrev pub ChosenBy : List ℕ → List ℕ → Bool → Cursor → Option (EntryAt × Cursor) → Type 0
ChosenBy l w b c (Some (i, d)) = Chosen l w b c i d
ChosenBy l w b c None = only b (entries l w c) ≡ []

pub record Skipped (l w : List ℕ) (b : Bool) (c : Cursor) (n : ℕ) (d : Cursor) : Type 0 where
  pub list : only b (entries l w d) ≡ drop n (only b (entries l w c))
