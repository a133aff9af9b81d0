-- A step over pages: its entry lies below the free address, and fewer steps are left behind it.
-- Assumes nothing.
use mathlib.Core.Path.{◌≡◌, refl, subst, ap, ◌∙◌}
use mathlib.Core.List.{List}
use mathlib.Core.Bool.{Bool, true, false, cond}
use Prim.Native.Nat.{ℕ, ◌+◌, ◌*◌, ◌≤◌, ◌<◌}
use native.Mathlib.Omega.{arith}
use lib.ListN.{length}
use lib.Dec.{leb, eqb}
use borrow.Author.Tests.{leb-true, le-leb, lt-leb, eqb-true, eqb-false, eq-eqb, ne_eqb}
use Rattle.spans.proofs.Tests.{ask}
use Rattle.order.specs.declared.Ver.{Ver}
use Rattle.order.specs.Version.{ver_of}
use Rattle.frames.specs.declared.Addr.{Addr}
use Rattle.frames.specs.declared.PageId.{PageId}
use Rattle.frames.specs.Layout.{addr, page_id}
use Rattle.frames.specs.Limits.{max_entries, max_key, max_value}
use Rattle.pages.specs.declared.Place.{Place}
use Rattle.pages.specs.Boundaries.{place, bounds_at}
use Rattle.walks.specs.declared.Walk.{Walk}
use Rattle.walks.specs.Walk.{step_at}
use Rattle.walks.proofs.Shorter.{Moves, found_moves, leads_moves}
use Rattle.build_sources.specs.declared.Cursor.{Cursor}
use Rattle.build_sources.specs.declared.EntryAt.{EntryAt}
use Rattle.build_sources.specs.declared.EntryRead.{EntryRead}
use Rattle.build_sources.specs.declared.EntryRead.TheVariants.{Got, End, Bad}
use Rattle.build_sources.specs.Pages.{whole_at, first_in, page_first, page_key, page_item, page_past, item_at, walked_of, walked, turned_of, turned, pages_of, pages_next, pages_left}
use Rattle.build_sources.specs.Lists.{same_key}
use Rattle.build_sources.specs.Source.{Placed}
use Rattle.std.proofs.Common.{Option, Some, None, Result, Ok, Err}
use Rattle.frames.specs.declared.Refusal.{Refusal}
use Rattle.pages.specs.declared.Bounds.{Bounds}
use Rattle.walks.specs.declared.Step.{Step}

-- ---- an entry of a page, in the words of the code

module _ (w : List ℕ) (c : Cursor) (rest : Place) (ver : Ver) (value : Place) (kept : Addr) (page : PageId) (v : Walk) where
  pub item_found : leb (c.pre.at + c.pre.len) (length w) ≡ true → leb (rest.at + rest.len) (length w) ≡ true → leb (value.at + value.len) (length w) ≡ true
      → c.pre.len + rest.len ≤ max_key → value.len ≤ max_value → (o : Bool) → o ≡ same_key w c (page_key c rest)
      → Got (record { footing = true; old = o; key = page_key c rest; ver = ver; vat = value.at; vlen = value.len; kept = kept; page = page }) (page_past c rest v)
      ≡ item_at w c rest ver value kept page v
  unfolding item_at
  item_found a b d e f o h = rw (h, a, b, d, le-leb (c.pre.len + rest.len) max_key e, le-leb value.len max_value f) refl

  -- and none, by the first test that fails
  pub no_prefix : leb (c.pre.at + c.pre.len) (length w) ≡ false → Bad ≡ item_at w c rest ver value kept page v
  unfolding item_at
  no_prefix a = rw a

  module _ (a : leb (c.pre.at + c.pre.len) (length w) ≡ true) where
    pub no_rest : leb (rest.at + rest.len) (length w) ≡ false → Bad ≡ item_at w c rest ver value kept page v
    unfolding item_at
    no_rest b = rw (a, b)

    module _ (b : leb (rest.at + rest.len) (length w) ≡ true) where
      pub no_value : leb (value.at + value.len) (length w) ≡ false → Bad ≡ item_at w c rest ver value kept page v
      unfolding item_at
      no_value d = rw (a, b, d)

      module _ (d : leb (value.at + value.len) (length w) ≡ true) where
        pub no_key : max_key < c.pre.len + rest.len → Bad ≡ item_at w c rest ver value kept page v
        unfolding item_at
        no_key e = rw (a, b, d, lt-leb (c.pre.len + rest.len) max_key e)

        pub no_length : c.pre.len + rest.len ≤ max_key → max_value < value.len → Bad ≡ item_at w c rest ver value kept page v
        unfolding item_at
        no_length e f = rw (a, b, d, le-leb (c.pre.len + rest.len) max_key e, lt-leb value.len max_value f)

pub room-sum : (x m y n len : ℕ) → leb (x + m) len ≡ true → leb (y + n) len ≡ true → m + n ≤ len + len
room-sum x m y n len p q = let a = leb-true (x + m) len p in let b = leb-true (y + n) len q in omega arith

-- ---- the count of what is left

-- what a cursor whose counts are a page's leaves, and what any other
left_sane : (c : Cursor) → c.walk.heads ≤ max_entries → c.walk.older.left ≤ 4294967295 → pages_left c ≡ c.walk.heads * 4294967296 + c.walk.older.left + cond (eqb c.then.0 0) 0 281474976710656
unfolding pages_left
left_sane c p q = rw (le-leb _ _ p, le-leb _ _ q)

-- never more than it counts
left_most : (c : Cursor) → pages_left c ≤ c.walk.heads * 4294967296 + c.walk.older.left + cond (eqb c.then.0 0) 0 281474976710656
unfolding pages_left
left_most c = go (leb c.walk.heads max_entries) (leb c.walk.older.left 4294967295)
  where
    n : ℕ
    n = c.walk.heads * 4294967296 + c.walk.older.left + cond (eqb c.then.0 0) 0 281474976710656

    go : (t u : Bool) → cond t (cond u n 0) 0 ≤ n
    go true true = omega arith
    go true false = omega arith
    go false u = omega arith

-- nothing where its count of old versions is none of a page's
left_none : (d : Cursor) → leb d.walk.older.left 4294967295 ≡ false → pages_left d ≡ 0
unfolding pages_left
left_none d e = go (leb d.walk.heads max_entries)
  where
    go : (t : Bool) → cond t (cond (leb d.walk.older.left 4294967295) (d.walk.heads * 4294967296 + d.walk.older.left + cond (eqb d.then.0 0) 0 281474976710656) 0) 0 ≡ 0
    go true = rw e
    go false = refl

-- less than a page's count where no page is behind
left-last : (c : Cursor) → c.then.0 ≡ 0 → pages_left c < 281474976710656
unfolding pages_left
left-last c z = go (leb c.walk.heads max_entries) refl (leb c.walk.older.left 4294967295) refl
  where
    n : ℕ
    n = c.walk.heads * 4294967296 + c.walk.older.left + cond (eqb c.then.0 0) 0 281474976710656

    is : n ≡ c.walk.heads * 4294967296 + c.walk.older.left
    is = rw (eq-eqb _ _ z) (omega arith)

    go : (t : Bool) → leb c.walk.heads max_entries ≡ t → (u : Bool) → leb c.walk.older.left 4294967295 ≡ u → cond t (cond u n 0) 0 < 281474976710656
    go true p true q = omega (arith, leb-true c.walk.heads max_entries p, leb-true c.walk.older.left 4294967295 q, is)
    go true p false q = omega arith
    go false p u q = omega arith

few : (t : Bool) → cond t 0 281474976710656 ≤ 281474976710656
few true = omega arith
few false = omega arith

-- a usize counts it
pub left-small : (c : Cursor) → pages_left c ≤ 562949953421312
unfolding pages_left
left-small c = go (leb c.walk.heads max_entries) refl (leb c.walk.older.left 4294967295) refl
  where
    n : ℕ
    n = c.walk.heads * 4294967296 + c.walk.older.left + cond (eqb c.then.0 0) 0 281474976710656

    go : (t : Bool) → leb c.walk.heads max_entries ≡ t → (u : Bool) → leb c.walk.older.left 4294967295 ≡ u → cond t (cond u n 0) 0 ≤ 562949953421312
    go true p true q = omega (arith, leb-true c.walk.heads max_entries p, leb-true c.walk.older.left 4294967295 q, few (eqb c.then.0 0))
    go true p false q = omega arith
    go false p u q = omega arith

-- ---- one record of the page that is walked

record Walked (l w : List ℕ) (c : Cursor) (i : EntryAt) (d : Cursor) : Type 0 where
  placed : Placed l w i
  footing : i.footing ≡ true
  sane : (c.walk.heads ≤ max_entries) × (c.walk.older.left ≤ 4294967295)
  source : d.source ≡ c.source
  then : d.then ≡ c.then
  moves : Moves c.walk d.walk

no : {i : EntryAt} {d : Cursor} → Bad ≡ Got i d → ⊥
no e = let z : ◌≡◌ {A = ℕ} 0 1 = cc in omega arith

module _ (l w : List ℕ) (c : Cursor) (p : c.walk.heads ≤ max_entries) (q : c.walk.older.left ≤ 4294967295) (i : EntryAt) (d : Cursor) where
  item_walked : (rest : Place) (ver : Ver) (value : Place) (kept : Addr) (page : PageId) (v : Walk) → Moves c.walk v → item_at w c rest ver value kept page v ≡ Got i d → Walked l w c i d
  unfolding item_at
  item_walked rest ver value kept page v m e =
      let a₁ = ask (leb (c.pre.at + c.pre.len) (length w)) _ Bad (Got i d) no e in
      let a₂ = ask (leb (rest.at + rest.len) (length w)) _ Bad (Got i d) no a₁.1 in
      let a₃ = ask (leb (value.at + value.len) (length w)) _ Bad (Got i d) no a₂.1 in
      let a₄ = ask (leb (c.pre.len + rest.len) max_key) _ Bad (Got i d) no a₃.1 in
      let a₅ = ask (leb value.len max_value) (Got (page_item w c rest ver value kept page) (page_past c rest v)) Bad (Got i d) no a₄.1 in
      let ei : page_item w c rest ver value kept page ≡ i = cc in
      let ed : page_past c rest v ≡ d = cc in
      rw (← ei, ← ed)
      (record {
        placed = record { pre = leb-true _ _ a₁.0; rest = leb-true _ _ a₂.0; val = leb-true _ _ a₃.0; ksmall = leb-true _ _ a₄.0; vsmall = leb-true _ _ a₅.0 };
        footing = refl;
        sane = (p, q);
        source = refl;
        then = refl;
        moves = m;
      })

  step_walked : (st : Result Step Refusal) → step_at w c.walk ≡ st → walked_of w c st ≡ Got i d → Walked l w c i d
  step_walked (Ok (Step.Found x v)) h e = item_walked x.key x.ver x.value x.remote (page_id 0) v (found_moves w c.walk x v h) e
  step_walked (Ok (Step.Leads x v)) h e = item_walked x.key (ver_of 0 0) (place 0 0) (addr 0) x.page v (leads_moves w c.walk x v h) e
  step_walked (Ok Step.End) h e = absurd (let z : ◌≡◌ {A = ℕ} 0 1 = cc in omega arith)
  step_walked (Err n) h e = absurd (no e)

walked-is : (l w : List ℕ) (c : Cursor) (i : EntryAt) (d : Cursor) → walked w c ≡ Got i d → Walked l w c i d
unfolding walked
walked-is l w c i d e =
    let a₁ = ask (leb c.walk.heads max_entries) _ Bad (Got i d) no e in
    let a₂ = ask (leb c.walk.older.left 4294967295) (walked_of w c (step_at w c.walk)) Bad (Got i d) no a₁.1 in
    step_walked l w c (leb-true _ _ a₁.0) (leb-true _ _ a₂.0) i d (step_at w c.walk) refl a₂.1

-- ---- and over both pages

pub record Falls (l w : List ℕ) (c : Cursor) (i : EntryAt) (d : Cursor) : Type 0 where
  pub placed : Placed l w i
  pub footing : i.footing ≡ true
  pub source : d.source ≡ c.source
  pub falls : pages_left d < pages_left c

-- on the same page
same-page : (l w : List ℕ) (c : Cursor) (i : EntryAt) (d : Cursor) → Walked l w c i d → Falls l w c i d
same-page l w c i d h = record { placed = h.placed; footing = h.footing; source = h.source; falls = by (leb d.walk.older.left 4294967295) refl (eqb d.walk.heads c.walk.heads) refl }
  where
    more : ℕ
    more = cond (eqb c.then.0 0) 0 281474976710656

    was : pages_left c ≡ c.walk.heads * 4294967296 + c.walk.older.left + more
    was = left_sane c h.sane.0 h.sane.1

    is : pages_left d ≤ d.walk.heads * 4294967296 + d.walk.older.left + more
    is = subst (λ (t : Addr). pages_left d ≤ d.walk.heads * 4294967296 + d.walk.older.left + cond (eqb t.0 0) 0 281474976710656) h.then (left_most d)

    by : (t : Bool) → leb d.walk.older.left 4294967295 ≡ t → (u : Bool) → eqb d.walk.heads c.walk.heads ≡ u → pages_left d < pages_left c
    by true p true q = let e = eqb-true d.walk.heads c.walk.heads q in omega (arith, was, is, e, h.moves.falls e)
    by true p false q = omega (arith, was, is, leb-true d.walk.older.left 4294967295 p, eqb-false d.walk.heads c.walk.heads q, h.moves.fewer)
    by false p true q = let e = eqb-true d.walk.heads c.walk.heads q in omega (arith, was, left_none d p, e, h.moves.falls e)
    by false p false q = omega (arith, was, left_none d p, eqb-false d.walk.heads c.walk.heads q, h.moves.fewer)

-- on the page behind: the first page was at its end
module _ (l w : List ℕ) (c : Cursor) (i : EntryAt) (d : Cursor) where
  end_not_bad : Bad ≡ End → ⊥
  end_not_bad e = let z : ◌≡◌ {A = ℕ} 0 1 = cc in omega arith

  at-end : walked w c ≡ End → (c.then.0 ≡ 0 → ⊥) → 281474976710656 ≤ pages_left c
  unfolding walked
  at-end e n =
      let a₁ = ask (leb c.walk.heads max_entries) _ Bad End end_not_bad e in
      let a₂ = ask (leb c.walk.older.left 4294967295) (walked_of w c (step_at w c.walk)) Bad End end_not_bad a₁.1 in
      rw (left_sane c (leb-true _ _ a₁.0) (leb-true _ _ a₂.0), ne_eqb c.then.0 0 n) (omega arith)

  first_then : (b : Result Walk Refusal) (e : Result Bounds Refusal) (f : Cursor) → first_in c (addr 0) b e ≡ Some f → (f.then ≡ addr 0) × (f.source ≡ c.source)
  first_then (Ok v) (Ok e) f h =
      let q : record { source = c.source; seen = c.seen; key = c.key; at = c.at; walk = v; pre = e.prefix; then = addr 0 } ≡ f = cc in
      rw (← q) (refl, refl)
  first_then (Ok v) (Err n) f h = absurd (let z : ◌≡◌ {A = ℕ} 0 1 = cc in omega arith)
  first_then (Err n) e f h = absurd (let z : ◌≡◌ {A = ℕ} 0 1 = cc in omega arith)

  next-page : walked w c ≡ End → turned w c ≡ Got i d → Falls l w c i d
  unfolding turned page_first
  next-page e h = ends (eqb c.then.0 0) refl h
    where
      on : (c.then.0 ≡ 0 → ⊥) → (b : Option Cursor) → page_first w c c.then (addr 0) ≡ b → turned_of w b ≡ Got i d → Falls l w c i d
      on n (Some f) q g =
          let t = first_then (whole_at w c.then) (bounds_at w c.then) f q in
          let k = walked-is l w f i d g in
          record { placed = k.placed; footing = k.footing; source = k.source ∙ t.1; falls = omega (arith, at-end e n, left-last d (ap (λ (a : Addr). a.0) (k.then ∙ t.0))) }
      on n None q g = absurd (no g)

      ends : (t : Bool) → eqb c.then.0 0 ≡ t → cond t End (turned_of w (page_first w c c.then (addr 0))) ≡ Got i d → Falls l w c i d
      ends true t g = absurd (let z : ◌≡◌ {A = ℕ} 0 1 = cc in omega arith)
      ends false t g = on (eqb-false c.then.0 0 t) (page_first w c c.then (addr 0)) refl g

  -- THE LAW of a step over pages
  pub pages_fall : pages_next w c ≡ Got i d → Falls l w c i d
  unfolding pages_next
  pages_fall e = go (walked w c) refl e
    where
      go : (st : EntryRead) → walked w c ≡ st → pages_of w c st ≡ Got i d → Falls l w c i d
      go (Got j f) h e =
          let a : Got j f ≡ Got i d = e in
          same-page l w c i d (walked-is l w c i d (h ∙ a))
      go End h e = next-page h e
      go Bad h e = absurd (no e)
