-- Any source's entries, before anything is judged: an entry is marked old exactly where its key is that of the entry before, its lengths
-- are document 01's, and an entry of a list keeps no remote and has numbers of their widths.
-- Assumes nothing.
use mathlib.Core.Path.{◌≡◌, refl, sym, ap, ◌∙◌}
use mathlib.Core.List.{List}
use mathlib.Core.Bool.{Bool, true, false, cond}
use Prim.Native.Nat.{ℕ, zero, suc, ◌+◌, ◌^◌, ◌≤◌, ◌<◌}
use native.Mathlib.Omega.{arith}
use lib.ListN.{length}
use lib.Dec.{leb, eqb}
use borrow.Author.Tests.{leb-true, eqb-true, eqb-false, eq-eqb, ne_eqb}
use Rattle.spans.specs.Span.{part}
use Rattle.spans.proofs.Part.{length_part}
use Rattle.spans.proofs.Tests.{ask}
use Rattle.numbers.specs.Number.{be_at, Bytes}
use Rattle.numbers.proofs.Numbers.{of_be_lt, bytes-part}
use Rattle.order.specs.declared.Ver.{Ver}
use Rattle.order.specs.Order.{cmp_bytes, is_equal}
use Rattle.order.specs.Version.{ver_of}
use Rattle.frames.specs.declared.Addr.{Addr}
use Rattle.frames.specs.declared.PageId.{PageId}
use Rattle.frames.specs.Layout.{addr, page_id}
use Rattle.frames.specs.Limits.{max_entries, max_key, max_value}
use Rattle.pages.specs.declared.Place.{Place}
use Rattle.pages.specs.Boundaries.{place, bounds_at}
use Rattle.walks.specs.declared.Walk.{Walk}
use Rattle.walks.specs.Walk.{step_at}
use Rattle.build_sources.specs.declared.Key.{Key}
use Rattle.build_sources.specs.declared.Cursor.{Cursor}
use Rattle.build_sources.specs.declared.EntryAt.{EntryAt}
use Rattle.build_sources.specs.declared.EntryRead.{EntryRead}
use Rattle.build_sources.specs.declared.EntryRead.TheVariants.{Got, End, Bad}
use Rattle.build_sources.specs.Keys.{key_bytes, src_of}
use Rattle.build_sources.specs.Lists.{same_key, record_at, index_at, spot_at, record_item, index_item}
use Rattle.build_sources.specs.Pages.{whole_at, first_in, page_first, page_item, page_past, item_at, walked_of, walked, turned_of, turned, pages_of, pages_next}
use Rattle.build_sources.specs.Source.{Entry, list_next, next_of, step_of, past_of, entry_of, left_of, entries}
use Rattle.build_sources.specs.Marks.{Each, MarkedFrom, Marked, Short, Wide}
use Rattle.build_sources.proofs.Sourced.{found, ended, odd}
use Rattle.std.proofs.Common.{Option, Some, None, Result, Ok, Err}
use Rattle.frames.specs.declared.Refusal.{Refusal}
use Rattle.pages.specs.declared.Bounds.{Bounds}
use Rattle.walks.specs.declared.Step.{Step}

-- ---- a step over a list: its item's own words

-- a number of a list keeps its width (it belongs to `numbers`)
pub be_at_lt : (l : List ℕ) (i k : ℕ) → i + k ≤ length l → Bytes l → be_at k l i < 256 ^ k
unfolding be_at
be_at_lt l i k f h = omega (arith, of_be_lt (part l i k) (bytes-part l i k h), ap (λ (m : ℕ). 256 ^ m) (length_part l i k f))

record Listed (l : List ℕ) (c : Cursor) (i : EntryAt) : Type 0 where
  footing : i.footing ≡ false
  old : i.old ≡ same_key l c i.key
  kept : i.kept.0 ≡ 0
  txid : Bytes l → i.ver.txid < 256 ^ 8
  cmd : Bytes l → i.ver.cmd < 256 ^ 4
  page : Bytes l → i.page.0 < 256 ^ 8

no_spot : {i : EntryAt} {past : ℕ} → ◌≡◌ {A = Option (EntryAt × ℕ)} None (Some (i, past)) → ⊥
no_spot e = let z : ◌≡◌ {A = ℕ} 0 1 = cc in omega arith

no_step : {i : EntryAt} {d : Cursor} → Bad ≡ Got i d → ⊥
no_step e = let z : ◌≡◌ {A = ℕ} 0 1 = cc in omega arith

record_listed : (l : List ℕ) (c : Cursor) (i : EntryAt) (past : ℕ) → record_at l c ≡ Some (i, past) → Listed l c i
unfolding record_at
record_listed l c i past e =
    let k = be_at 2 l c.at in
    let v = be_at 4 l (c.at + 2 + k + 12) in
    let a₁ = ask (leb (c.at + 2) (length l)) _ None (Some (i, past)) no_spot e in
    let a₂ = ask (leb k max_key) _ None (Some (i, past)) no_spot a₁.1 in
    let a₃ = ask (leb (c.at + 2 + (k + 16)) (length l)) _ None (Some (i, past)) no_spot a₂.1 in
    let a₄ = ask (leb v max_value) _ None (Some (i, past)) no_spot a₃.1 in
    let a₅ = ask (leb (c.at + 2 + k + 16 + v) (length l)) (Some (record_item l c k v, c.at + 2 + k + 16 + v)) None (Some (i, past)) no_spot a₄.1 in
    let h : c.at + 2 + (be_at 2 l c.at + 16) ≤ length l = leb-true _ _ a₃.0 in
    let x : record_item l c k v ≡ i = grind arith in
    rw (← x)
    (record {
      footing = refl;
      old = refl;
      kept = refl;
      txid = λ b. be_at_lt l (c.at + 2 + be_at 2 l c.at) 8 (omega arith) b;
      cmd = λ b. be_at_lt l (c.at + 2 + be_at 2 l c.at + 8) 4 (omega arith) b;
      page = λ b. omega arith;
    })

index_listed : (l : List ℕ) (c : Cursor) (i : EntryAt) (past : ℕ) → index_at l c ≡ Some (i, past) → Listed l c i
unfolding index_at
index_listed l c i past e =
    let k = be_at 2 l c.at in
    let a₁ = ask (leb (c.at + 2) (length l)) _ None (Some (i, past)) no_spot e in
    let a₂ = ask (leb k max_key) _ None (Some (i, past)) no_spot a₁.1 in
    let a₃ = ask (leb (c.at + 2 + (k + 8)) (length l)) (Some (index_item l c k, c.at + 2 + k + 8)) None (Some (i, past)) no_spot a₂.1 in
    let h : c.at + 2 + (be_at 2 l c.at + 8) ≤ length l = leb-true _ _ a₃.0 in
    let x : index_item l c k ≡ i = grind arith in
    rw (← x)
    (record { footing = refl; old = refl; kept = refl; txid = λ b. omega arith; cmd = λ b. omega arith; page = λ b. be_at_lt l (c.at + 2 + be_at 2 l c.at) 8 (omega arith) b })

-- an entry of an index list has no version
index_plain : (l : List ℕ) (c : Cursor) (i : EntryAt) (past : ℕ) → index_at l c ≡ Some (i, past) → i.ver ≡ ver_of 0 0
unfolding index_at
index_plain l c i past e =
    let k = be_at 2 l c.at in
    let a₁ = ask (leb (c.at + 2) (length l)) _ None (Some (i, past)) no_spot e in
    let a₂ = ask (leb k max_key) _ None (Some (i, past)) no_spot a₁.1 in
    let a₃ = ask (leb (c.at + 2 + (k + 8)) (length l)) (Some (index_item l c k, c.at + 2 + k + 8)) None (Some (i, past)) no_spot a₂.1 in
    let x : index_item l c k ≡ i = grind arith in
    rw (← x)

spot_plain : (l : List ℕ) (c : Cursor) (i : EntryAt) (past : ℕ) → c.source ≡ 1 → spot_at l c ≡ Some (i, past) → i.ver ≡ ver_of 0 0
unfolding spot_at
spot_plain l c i past k e = index_plain l c i past (rw (eq-eqb c.source 1 k) at e)

spot_listed : (l : List ℕ) (c : Cursor) (i : EntryAt) (past : ℕ) → spot_at l c ≡ Some (i, past) → Listed l c i
unfolding spot_at
spot_listed l c i past e = go (eqb c.source 1) e
  where
    go : (b : Bool) → cond b (index_at l c) (record_at l c) ≡ Some (i, past) → Listed l c i
    go true e = index_listed l c i past e
    go false e = record_listed l c i past e

stepped : (b : Bool) (c : Cursor) (sp : Option (EntryAt × ℕ)) (i : EntryAt) (d : Cursor) → cond b End (step_of c sp) ≡ Got i d → (past : ℕ) × (sp ≡ Some (i, past)) × (past_of c past i ≡ d)
unfolding step_of
stepped true c sp i d e = absurd (let z : ◌≡◌ {A = ℕ} 0 1 = cc in omega arith)
stepped false c (Some (j, past)) i d e = (past, cc, cc)
stepped false c None i d e = absurd (no_step e)

-- ---- what a step of any source tells of its item and of the cursor behind it

pub record Stepped (l w : List ℕ) (c : Cursor) (i : EntryAt) (d : Cursor) : Type 0 where
  pub footing : i.footing ≡ eqb c.source 2
  pub old : i.old ≡ same_key (src_of l w i.footing) c i.key
  pub seen : d.seen ≡ true
  pub key : d.key ≡ i.key
  pub source : d.source ≡ c.source

list_stepped : (l w : List ℕ) (c : Cursor) (i : EntryAt) (d : Cursor) → (c.source ≡ 2 → ⊥) → list_next l c ≡ Got i d → Listed l c i × Stepped l w c i d
unfolding list_next
list_stepped l w c i d n e =
    let g = stepped (leb (length l) c.at) c (spot_at l c) i d e in
    let t = spot_listed l c i g.0 g.1 in (
      t,
      rw (← g.2) (record { footing = t.footing ∙ sym (ne_eqb c.source 2 n); old = rw t.footing t.old; seen = refl; key = refl; source = refl }),
    )

-- a page's cursor in front of its first record keeps what it carried
pub record Turns (c : Cursor) (t : Addr) (f : Cursor) : Type 0 where
  pub source : f.source ≡ c.source
  pub seen : f.seen ≡ c.seen
  pub key : f.key ≡ c.key
  pub then : f.then ≡ t

pub first_turns : (w : List ℕ) (c : Cursor) (a then : Addr) (f : Cursor) → page_first w c a then ≡ Some f → Turns c then f
unfolding page_first
first_turns w c a then f e = go (whole_at w a) (bounds_at w a) e
  where
    no : None ≡ Some f → ⊥
    no e = let z : ◌≡◌ {A = ℕ} 0 1 = cc in omega arith

    go : (b : Result Walk Refusal) (e : Result Bounds Refusal) → first_in c then b e ≡ Some f → Turns c then f
    go (Ok v) (Ok e) h =
        let q : record { source = c.source; seen = c.seen; key = c.key; at = c.at; walk = v; pre = e.prefix; then = then } ≡ f = cc in
        rw (← q) (record { source = refl; seen = refl; key = refl; then = refl })
    go (Ok v) (Err n) h = absurd (no h)
    go (Err n) e h = absurd (no h)

module _ (l w : List ℕ) (c : Cursor) (i : EntryAt) (d : Cursor) (k : c.source ≡ 2) where
  item_stepped : (rest : Place) (ver : Ver) (value : Place) (kept : Addr) (page : PageId) (v : Walk) → item_at w c rest ver value kept page v ≡ Got i d → Stepped l w c i d
  unfolding item_at
  item_stepped rest ver value kept page v e =
      let a₁ = ask (leb (c.pre.at + c.pre.len) (length w)) _ Bad (Got i d) no_step e in
      let a₂ = ask (leb (rest.at + rest.len) (length w)) _ Bad (Got i d) no_step a₁.1 in
      let a₃ = ask (leb (value.at + value.len) (length w)) _ Bad (Got i d) no_step a₂.1 in
      let a₄ = ask (leb (c.pre.len + rest.len) max_key) _ Bad (Got i d) no_step a₃.1 in
      let a₅ = ask (leb value.len max_value) (Got (page_item w c rest ver value kept page) (page_past c rest v)) Bad (Got i d) no_step a₄.1 in
      let ei : page_item w c rest ver value kept page ≡ i = cc in
      let ed : page_past c rest v ≡ d = cc in
      rw (← ei, ← ed) (record { footing = sym (eq-eqb c.source 2 k); old = refl; seen = refl; key = refl; source = refl })

  of_stepped : (st : Result Step Refusal) → walked_of w c st ≡ Got i d → Stepped l w c i d
  of_stepped (Ok (Step.Found x v)) e = item_stepped x.key x.ver x.value x.remote (page_id 0) v e
  of_stepped (Ok (Step.Leads x v)) e = item_stepped x.key (ver_of 0 0) (place 0 0) (addr 0) x.page v e
  of_stepped (Ok Step.End) e = absurd (let z : ◌≡◌ {A = ℕ} 0 1 = cc in omega arith)
  of_stepped (Err n) e = absurd (no_step e)

  walked_stepped : walked w c ≡ Got i d → Stepped l w c i d
  unfolding walked
  walked_stepped e =
      let a₁ = ask (leb c.walk.heads max_entries) _ Bad (Got i d) no_step e in
      let a₂ = ask (leb c.walk.older.left 4294967295) (walked_of w c (step_at w c.walk)) Bad (Got i d) no_step a₁.1 in
      of_stepped (step_at w c.walk) a₂.1

-- the key that is carried over is what a mark looks at
same-carried : (s : List ℕ) (c f : Cursor) (k : Key) → f.seen ≡ c.seen → f.key ≡ c.key → same_key s f k ≡ same_key s c k
unfolding same_key
same-carried s c f k a b = rw (a, b)

pages_stepped : (l w : List ℕ) (c : Cursor) (i : EntryAt) (d : Cursor) → c.source ≡ 2 → pages_next w c ≡ Got i d → Stepped l w c i d
unfolding pages_next turned
pages_stepped l w c i d k e = go (walked w c) refl e
  where
    on : (b : Option Cursor) → page_first w c c.then (addr 0) ≡ b → turned_of w b ≡ Got i d → Stepped l w c i d
    on (Some f) q g =
        let t = first_turns w c c.then (addr 0) f q in
        let s = walked_stepped l w f i d (t.source ∙ k) g in
        record {
          footing = s.footing ∙ ap (λ (n : ℕ). eqb n 2) t.source;
          old = s.old ∙ same-carried (src_of l w i.footing) c f i.key t.seen t.key;
          seen = s.seen;
          key = s.key;
          source = s.source ∙ t.source;
        }
    on None q g = absurd (no_step g)

    ends : (t : Bool) → cond t End (turned_of w (page_first w c c.then (addr 0))) ≡ Got i d → Stepped l w c i d
    ends true g = absurd (let z : ◌≡◌ {A = ℕ} 0 1 = cc in omega arith)
    ends false g = on (page_first w c c.then (addr 0)) refl g

    go : (st : EntryRead) → walked w c ≡ st → pages_of w c st ≡ Got i d → Stepped l w c i d
    go (Got j f) h e =
        let a : Got j f ≡ Got i d = e in
        walked_stepped l w c i d k (h ∙ a)
    go End h e = ends (eqb c.then.0 0) e
    go Bad h e = absurd (no_step e)

module _ (l w : List ℕ) (c : Cursor) (i : EntryAt) (d : Cursor) where
  pub step_tells : next_of l w c ≡ Got i d → Stepped l w c i d
  unfolding next_of
  step_tells e = go (eqb c.source 2) refl e
    where
      go : (t : Bool) → eqb c.source 2 ≡ t → cond t (pages_next w c) (list_next l c) ≡ Got i d → Stepped l w c i d
      go true t e = pages_stepped l w c i d (eqb-true c.source 2 t) e
      go false t e = (list_stepped l w c i d (eqb-false c.source 2 t) e).1

  list_tells : (c.source ≡ 2 → ⊥) → next_of l w c ≡ Got i d → Listed l c i
  unfolding next_of
  list_tells n e = (list_stepped l w c i d n (rw (ne_eqb c.source 2 n) at e)).0

  plain_tells : c.source ≡ 1 → next_of l w c ≡ Got i d → i.ver ≡ ver_of 0 0
  unfolding next_of list_next
  plain_tells k e =
      let n : c.source ≡ 2 → ⊥ = λ z. omega (arith, k, z) in
      let g = stepped (leb (length l) c.at) c (spot_at l c) i d (rw (ne_eqb c.source 2 n) at e) in
      spot_plain l c i g.0 k g.1

-- ---- what each step keeps holds of every entry

module _ (l w : List ℕ) (P : Entry → Type 0) (I : Cursor → Type 0) (keeps : (c : Cursor) (i : EntryAt) (d : Cursor) → I c → next_of l w c ≡ Got i d → P (entry_of l w i) × I d) where
  each_step : (c : Cursor) → I c → ((d : Cursor) → left_of l w d < left_of l w c → I d → Each P (entries l w d)) → Each P (entries l w c)
  unfolding Each
  each_step c h more = go (next_of l w c) refl
    where
      go : (st : EntryRead) → next_of l w c ≡ st → Each P (entries l w c)
      go (Got i d) e =
          let f = found l w c i d e in
          let k = keeps c i d h e in
          rw f.list (k.0, more d f.falls k.1)
      go End e = rw (ended l w c e).0 tt
      go Bad e = rw (odd l w c e).0 tt

  each_in : (n : ℕ) (c : Cursor) → left_of l w c < n → I c → Each P (entries l w c)
  each_in zero c m h = absurd (omega arith)
  each_in (suc n) c m h = each_step c h (λ d f g. each_in n d (omega arith) g)

  pub each : (c : Cursor) → I c → Each P (entries l w c)
  each c h = each_in (suc (left_of l w c)) c (omega arith) h

-- ---- THE LAWS

-- the lengths of every source's entries
pub short : (l w : List ℕ) (c : Cursor) → Each Short (entries l w c)
short l w c = each l w Short (λ d. Unit {0}) (λ d i f h e. let g = found l w d i f e in (record { key = omega (arith, g.klen, g.placed.ksmall); val = omega (arith, g.vlen, g.placed.vsmall) }, tt)) c tt

-- a list's entries
module _ (l w : List ℕ) (c : Cursor) (n : c.source ≡ 2 → ⊥) where
  on_list : (d : Cursor) (i : EntryAt) (f : Cursor) → (d.source ≡ 2 → ⊥) → next_of l w d ≡ Got i f → f.source ≡ 2 → ⊥
  on_list d i f m e k = m (sym (step_tells l w d i f e).source ∙ k)

  -- keep no remote
  pub list-kept : Each (λ e. e.kept ≡ 0) (entries l w c)
  unfolding entry_of
  list-kept = each l w (λ e. e.kept ≡ 0) (λ d. d.source ≡ 2 → ⊥) (λ d i f m e. ((list_tells l w d i f m e).kept, on_list d i f m e)) c n

  -- and have numbers of their widths
  pub list-wide : Bytes l → Each Wide (entries l w c)
  unfolding entry_of
  list-wide b =
      each l w Wide (λ d. d.source ≡ 2 → ⊥)
      (λ d i f m e. let t = list_tells l w d i f m e in (record { txid = t.txid b; cmd = t.cmd b; kept = omega (arith, t.kept); page = t.page b }, on_list d i f m e)) c n

-- an index list's have no version
pub list-plain : (l w : List ℕ) (c : Cursor) → c.source ≡ 1 → Each (λ e. e.ver ≡ ver_of 0 0) (entries l w c)
unfolding entry_of
list-plain l w c k = each l w (λ e. e.ver ≡ ver_of 0 0) (λ d. d.source ≡ 1) (λ d i f m e. (plain_tells l w d i f m e, (step_tells l w d i f e).source ∙ m)) c k

-- the marks: behind an entry, and from a cursor that has seen none
record Behind (l w : List ℕ) (a : Entry) (c : Cursor) : Type 0 where
  seen : c.seen ≡ true
  key : key_bytes (src_of l w (eqb c.source 2)) c.key ≡ a.key

module _ (l w : List ℕ) where
  old-behind : (a : Entry) (c : Cursor) (i : EntryAt) (d : Cursor) → Behind l w a c → next_of l w c ≡ Got i d → (entry_of l w i).old ≡ is_equal (cmp_bytes a.key (entry_of l w i).key)
  unfolding entry_of same_key
  old-behind a c i d b e = let s = step_tells l w c i d e in s.old ∙ rw (b.seen, ← b.key, s.footing)

  goes-behind : (c : Cursor) (i : EntryAt) (d : Cursor) → next_of l w c ≡ Got i d → Behind l w (entry_of l w i) d
  unfolding entry_of
  goes-behind c i d e = let s = step_tells l w c i d e in record { seen = s.seen; key = rw (s.source, s.key, ← s.footing) }

  from_step : (a : Entry) (c : Cursor) → Behind l w a c → ((e : Entry) (d : Cursor) → left_of l w d < left_of l w c → Behind l w e d → MarkedFrom e (entries l w d)) → MarkedFrom a (entries l w c)
  unfolding MarkedFrom
  from_step a c b more = go (next_of l w c) refl
    where
      go : (st : EntryRead) → next_of l w c ≡ st → MarkedFrom a (entries l w c)
      go (Got i d) e =
          let f = found l w c i d e in
          rw f.list (old-behind a c i d b e, more (entry_of l w i) d f.falls (goes-behind c i d e))
      go End e = rw (ended l w c e).0 tt
      go Bad e = rw (odd l w c e).0 tt

  from_in : (n : ℕ) (a : Entry) (c : Cursor) → left_of l w c < n → Behind l w a c → MarkedFrom a (entries l w c)
  from_in zero a c m b = absurd (omega arith)
  from_in (suc n) a c m b = from_step a c b (λ e d f g. from_in n e d (omega arith) g)

  first-old : (c : Cursor) (i : EntryAt) (d : Cursor) → c.seen ≡ false → next_of l w c ≡ Got i d → (entry_of l w i).old ≡ false
  unfolding entry_of same_key
  first-old c i d z e = (step_tells l w c i d e).old ∙ rw z

  -- THE LAW of marks
  pub marked : (c : Cursor) → c.seen ≡ false → Marked (entries l w c)
  unfolding Marked
  marked c z = go (next_of l w c) refl
    where
      go : (st : EntryRead) → next_of l w c ≡ st → Marked (entries l w c)
      go (Got i d) e =
          let f = found l w c i d e in
          rw f.list (first-old c i d z e, from_in (suc (left_of l w d)) (entry_of l w i) d (omega arith) (goes-behind c i d e))
      go End e = rw (ended l w c e).0 tt
      go Bad e = rw (odd l w c e).0 tt
