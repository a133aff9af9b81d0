-- The source's step in the words that a pass cites. No pass looks into a cursor: `Found` is all it knows.
-- Assumes nothing.
use mathlib.Core.Path.{◌≡◌, refl, sym, ap, ◌∙◌}
use mathlib.Core.List.{List, [], ◌∷◌, ◌++◌}
use mathlib.Core.Bool.{Bool, true, false, cond}
use Prim.Native.Nat.{ℕ, ◌+◌, ◌≤◌, ◌<◌}
use native.Mathlib.Omega.{arith}
use lib.ListN.{length, length-append}
use lib.Dec.{leb, eqb}
use borrow.Author.Tests.{leb-true, eqb-true, eqb-false, ne_eqb}
use Rattle.spans.specs.Span.{part}
use Rattle.spans.proofs.Part.{length_part, part_or_in}
use Rattle.spans.proofs.Tests.{ask}
use Rattle.numbers.specs.Number.{be_at}
use Rattle.frames.specs.Limits.{max_key, max_value}
use Rattle.build_sources.specs.declared.Key.{Key}
use Rattle.build_sources.specs.declared.Cursor.{Cursor}
use Rattle.build_sources.specs.declared.EntryAt.{EntryAt}
use Rattle.build_sources.specs.declared.EntryRead.{EntryRead}
use Rattle.build_sources.specs.declared.EntryRead.TheVariants.{Got, End, Bad}
use Rattle.build_sources.specs.Keys.{key_bytes, src_of}
use Rattle.build_sources.specs.Lists.{record_at, index_at, spot_at, record_item, index_item}
use Rattle.build_sources.specs.Source.{Placed, after, list_next, next_of, step_of, past_of, entry_of, left_of, entries, well_formed, only, wanted, Chosen, ChosenBy}
use Rattle.build_sources.specs.Pages.{pages_next}
use Rattle.build_sources.proofs.Walk.{list_step, well_step}
use Rattle.build_sources.proofs.Paged.{pages_fall}
use Rattle.std.proofs.Common.{Option, Some, None}

-- ---- where an item of a list lies

record Lying (s : List ℕ) (at : ℕ) (i : EntryAt) (past : ℕ) : Type 0 where
  same : i.footing ≡ false
  pre : i.key.pat + i.key.plen ≤ length s
  rest : i.key.kat + i.key.klen ≤ length s
  val : i.vat + i.vlen ≤ length s
  ksmall : i.key.plen + i.key.klen ≤ max_key
  vsmall : i.vlen ≤ max_value
  goes : at < past
  ends : past ≤ length s

no_spot : {i : EntryAt} {past : ℕ} → ◌≡◌ {A = Option (EntryAt × ℕ)} None (Some (i, past)) → ⊥
no_spot e = let z : ◌≡◌ {A = ℕ} 0 1 = cc in omega arith

moved : (s : List ℕ) (at : ℕ) (j i : EntryAt) (q past : ℕ) → ◌≡◌ {A = Option (EntryAt × ℕ)} (Some (j, q)) (Some (i, past)) → Lying s at j q → Lying s at i past
moved s at j i q past e h =
    let a : j ≡ i = grind arith in
    let b : q ≡ past = grind arith in
    rw (← a, ← b) h

record_lies : (s : List ℕ) (c : Cursor) (i : EntryAt) (past : ℕ) → record_at s c ≡ Some (i, past) → Lying s c.at i past
unfolding record_at
record_lies s c i past e =
    let k = be_at 2 s c.at in
    let v = be_at 4 s (c.at + 2 + k + 12) in
    let a₁ = ask (leb (c.at + 2) (length s)) _ None (Some (i, past)) no_spot e in
    let a₂ = ask (leb k max_key) _ None (Some (i, past)) no_spot a₁.1 in
    let a₃ = ask (leb (c.at + 2 + (k + 16)) (length s)) _ None (Some (i, past)) no_spot a₂.1 in
    let a₄ = ask (leb v max_value) _ None (Some (i, past)) no_spot a₃.1 in
    let a₅ = ask (leb (c.at + 2 + k + 16 + v) (length s)) (Some (record_item s c k v, c.at + 2 + k + 16 + v)) None (Some (i, past)) no_spot a₄.1 in
    let h₁ : be_at 2 s c.at ≤ max_key = leb-true _ _ a₂.0 in
    let h₂ : be_at 4 s (c.at + 2 + be_at 2 s c.at + 12) ≤ max_value = leb-true _ _ a₄.0 in
    let h₃ : c.at + 2 + be_at 2 s c.at + 16 + be_at 4 s (c.at + 2 + be_at 2 s c.at + 12) ≤ length s = leb-true _ _ a₅.0 in
    moved s c.at (record_item s c k v) i (c.at + 2 + k + 16 + v) past a₅.1
    (record { same = refl; pre = omega arith; rest = omega arith; val = omega arith; ksmall = omega arith; vsmall = omega arith; goes = omega arith; ends = omega arith })

index_lies : (s : List ℕ) (c : Cursor) (i : EntryAt) (past : ℕ) → index_at s c ≡ Some (i, past) → Lying s c.at i past
unfolding index_at
index_lies s c i past e =
    let k = be_at 2 s c.at in
    let a₁ = ask (leb (c.at + 2) (length s)) _ None (Some (i, past)) no_spot e in
    let a₂ = ask (leb k max_key) _ None (Some (i, past)) no_spot a₁.1 in
    let a₃ = ask (leb (c.at + 2 + (k + 8)) (length s)) (Some (index_item s c k, c.at + 2 + k + 8)) None (Some (i, past)) no_spot a₂.1 in
    let h₁ : be_at 2 s c.at ≤ max_key = leb-true _ _ a₂.0 in
    let h₂ : c.at + 2 + (be_at 2 s c.at + 8) ≤ length s = leb-true _ _ a₃.0 in
    moved s c.at (index_item s c k) i (c.at + 2 + k + 8) past a₃.1
    (record { same = refl; pre = omega arith; rest = omega arith; val = omega arith; ksmall = omega arith; vsmall = omega arith; goes = omega arith; ends = omega arith })

spot_lies : (s : List ℕ) (c : Cursor) (i : EntryAt) (past : ℕ) → spot_at s c ≡ Some (i, past) → Lying s c.at i past
unfolding spot_at
spot_lies s c i past e = go (eqb c.source 1) e
  where
    go : (b : Bool) → cond b (index_at s c) (record_at s c) ≡ Some (i, past) → Lying s c.at i past
    go true e = index_lies s c i past e
    go false e = record_lies s c i past e

stepped : (b : Bool) (c : Cursor) (sp : Option (EntryAt × ℕ)) (i : EntryAt) (d : Cursor) → cond b End (step_of c sp) ≡ Got i d → (past : ℕ) × (sp ≡ Some (i, past)) × (past_of c past i ≡ d)
unfolding step_of
stepped true c sp i d e = absurd (let z : ◌≡◌ {A = ℕ} 0 1 = cc in omega arith)
stepped false c (Some (j, past)) i d e = (past, cc, cc)
stepped false c None i d e = absurd (let z : ◌≡◌ {A = ℕ} 0 1 = cc in omega arith)

-- an entry of a list: it lies in the lent slice, whatever the footing, and the cursor past it reads the same list
pub list_item : (l w : List ℕ) (c : Cursor) (i : EntryAt) (d : Cursor) → (c.source ≡ 2 → ⊥) → next_of l w c ≡ Got i d → (i.footing ≡ false) × (d.source ≡ c.source)
unfolding next_of list_next
list_item l w c i d n e =
    let g = stepped (leb (length l) c.at) c (spot_at l c) i d (sym (rw (ne_eqb c.source 2 n) refl) ∙ e) in
    ((spot_lies l c i g.0 g.1).same, ap (λ (x : Cursor). x.source) (sym g.2))

pub list_any : (l w : List ℕ) (c : Cursor) → (c.source ≡ 2 → ⊥) → next_of l w c ≡ next_of l [] c
unfolding next_of
list_any l w c n = rw (ne_eqb c.source 2 n) refl

record Went (l w : List ℕ) (c : Cursor) (i : EntryAt) (d : Cursor) : Type 0 where
  placed : Placed l w i
  falls : left_of l w d < left_of l w c

list_went : (l w : List ℕ) (c : Cursor) (i : EntryAt) (d : Cursor) → (c.source ≡ 2 → ⊥) → list_next l c ≡ Got i d → Went l w c i d
unfolding list_next left_of
list_went l w c i d n e =
    let g = stepped (leb (length l) c.at) c (spot_at l c) i d e in
    let s = spot_lies l c i g.0 g.1 in
    record {
      placed = record { pre = rw s.same s.pre; rest = rw s.same s.rest; val = rw s.same s.val; ksmall = s.ksmall; vsmall = s.vsmall };
      falls = rw (← g.2, ne_eqb c.source 2 n) (omega (arith, s.goes, s.ends));
    }

pages_went : (l w : List ℕ) (c : Cursor) (i : EntryAt) (d : Cursor) → c.source ≡ 2 → pages_next w c ≡ Got i d → Went l w c i d
unfolding left_of
pages_went l w c i d k e =
    let g = pages_fall l w c i d e in
    record { placed = g.placed; falls = rw (g.source, k) g.falls }

went : (l w : List ℕ) (c : Cursor) (i : EntryAt) (d : Cursor) → next_of l w c ≡ Got i d → Went l w c i d
unfolding next_of
went l w c i d e = go (eqb c.source 2) refl e
  where
    go : (t : Bool) → eqb c.source 2 ≡ t → cond t (pages_next w c) (list_next l c) ≡ Got i d → Went l w c i d
    go true t e = pages_went l w c i d (eqb-true c.source 2 t) e
    go false t e = list_went l w c i d (eqb-false c.source 2 t) e

-- ---- what a pass cites

pub record Found (l w : List ℕ) (c : Cursor) (i : EntryAt) (d : Cursor) : Type 0 where
  pub list : entries l w c ≡ entry_of l w i ∷ entries l w d
  pub well : well_formed l w c ≡ well_formed l w d
  pub falls : left_of l w d < left_of l w c
  pub placed : Placed l w i
  pub klen : length (entry_of l w i).key ≡ i.key.plen + i.key.klen
  pub vlen : length (entry_of l w i).val ≡ i.vlen

-- a key that lies in its slice
pub key_parts : (s : List ℕ) (k : Key) → k.pat + k.plen ≤ length s → k.kat + k.klen ≤ length s → key_bytes s k ≡ part s k.pat k.plen ++ part s k.kat k.klen
unfolding key_bytes
key_parts s k p q = rw (part_or_in s k.pat k.plen p, part_or_in s k.kat k.klen q)

pub length-key : (s : List ℕ) (k : Key) → k.pat + k.plen ≤ length s → k.kat + k.klen ≤ length s → length (key_bytes s k) ≡ k.plen + k.klen
length-key s k p q =
    ap length (key_parts s k p q)
    ∙ length-append (part s k.pat k.plen) (part s k.kat k.klen)
    ∙ omega (arith, length_part s k.pat k.plen p, length_part s k.kat k.klen q)

module _ (l w : List ℕ) where
  falls : (c : Cursor) (i : EntryAt) (d : Cursor) → next_of l w c ≡ Got i d → left_of l w d < left_of l w c
  falls c i d e = (went l w c i d e).falls

  step : (c : Cursor) → entries l w c ≡ after (next_of l w c) (λ i d. entry_of l w i ∷ entries l w d) [] []
  unfolding entries
  step c = list_step (next_of l w) (entry_of l w) (left_of l w) falls c

  well : (c : Cursor) → well_formed l w c ≡ after (next_of l w c) (λ i d. well_formed l w d) true false
  unfolding well_formed
  well c = well_step (next_of l w) (entry_of l w) (left_of l w) falls c

  key-long : (i : EntryAt) → Placed l w i → length (entry_of l w i).key ≡ i.key.plen + i.key.klen
  unfolding entry_of
  key-long i p = length-key (src_of l w i.footing) i.key p.pre p.rest

  val-long : (i : EntryAt) → Placed l w i → length (entry_of l w i).val ≡ i.vlen
  unfolding entry_of
  val-long i p = length_part (src_of l w i.footing) i.vat i.vlen p.val

  pub found : (c : Cursor) (i : EntryAt) (d : Cursor) → next_of l w c ≡ Got i d → Found l w c i d
  unfolding after
  found c i d e =
      record {
        list = rw e at (step c);
        well = rw e at (well c);
        falls = falls c i d e;
        placed = (went l w c i d e).placed;
        klen = key-long i (went l w c i d e).placed;
        vlen = val-long i (went l w c i d e).placed;
      }

  pub ended : (c : Cursor) → next_of l w c ≡ End → (entries l w c ≡ []) × (well_formed l w c ≡ true)
  unfolding after
  ended c e = (rw e at (step c), rw e at (well c))

  pub odd : (c : Cursor) → next_of l w c ≡ Bad → (entries l w c ≡ []) × (well_formed l w c ≡ false)
  unfolding after
  odd c e = (rw e at (step c), rw e at (well c))

-- the same from a call's words: its answer r, of a footing w' that is still w
module _ (l w w' : List ℕ) (c : Cursor) (r : EntryRead) (e : w' ≡ w) (p : r ≡ next_of l w' c) where
  still : r ≡ next_of l w c
  still = p ∙ ap (λ (v : List ℕ). next_of l v c) e

  pub got : (i : EntryAt) (d : Cursor) → r ≡ Got i d → Found l w c i d
  got i d q = found l w c i d (sym still ∙ q)

  pub at-end : r ≡ End → (entries l w c ≡ []) × (well_formed l w c ≡ true)
  at-end q = ended l w c (sym still ∙ q)

  pub at_bad : r ≡ Bad → (entries l w c ≡ []) × (well_formed l w c ≡ false)
  at_bad q = odd l w c (sym still ∙ q)

-- ---- one kind of entries only

module _ (l w : List ℕ) (b : Bool) (c₀ c : Cursor) (i : EntryAt) (d : Cursor) (h : only b (entries l w c) ≡ only b (entries l w c₀)) (f : Found l w c i d) where
  opened : only b (entries l w c₀) ≡ cond (wanted b i.old) (entry_of l w i ∷ only b (entries l w d)) (only b (entries l w d))
  unfolding only entry_of
  opened = sym h ∙ rw f.list

  pub chosen : wanted b i.old ≡ true → Chosen l w b c₀ i d
  chosen e = record { list = opened ∙ rw e; placed = f.placed; klen = f.klen; vlen = f.vlen }

  pub passed : wanted b i.old ≡ false → only b (entries l w d) ≡ only b (entries l w c₀)
  passed e = sym (opened ∙ rw e)

pub none : (l w : List ℕ) (b : Bool) (c₀ c : Cursor) → only b (entries l w c) ≡ only b (entries l w c₀) → entries l w c ≡ [] → only b (entries l w c₀) ≡ []
unfolding only
none l w b c₀ c h e = sym h ∙ rw e

-- from a call's words: its answer r, of a footing w' that is still w
chosen_is : (l w : List ℕ) (b : Bool) (c : Cursor) (r : Option (EntryAt × Cursor)) (i : EntryAt) (d : Cursor) → ChosenBy l w b c r → r ≡ Some (i, d) → Chosen l w b c i d
chosen_is l w b c r i d p q = rw q at p

none_is : (l w : List ℕ) (b : Bool) (c : Cursor) (r : Option (EntryAt × Cursor)) → ChosenBy l w b c r → r ≡ None → only b (entries l w c) ≡ []
none_is l w b c r p q = rw q at p

module _ (l w w' : List ℕ) (b : Bool) (c : Cursor) (r : Option (EntryAt × Cursor)) (e : w' ≡ w) (p : ChosenBy l w' b c r) where
  pub one : (i : EntryAt) (d : Cursor) → r ≡ Some (i, d) → Chosen l w b c i d
  one i d q = rw e at (chosen_is l w' b c r i d p q)

  pub no_one : r ≡ None → only b (entries l w c) ≡ []
  no_one q = rw e at (none_is l w' b c r p q)
