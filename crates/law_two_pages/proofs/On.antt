-- A cursor that stands on a page below the free address: how it begins there, what its step finds, and what it keeps from step to step.
-- Assumes nothing.
use Prim.Native.Nat.{ℕ, ◌+◌, ◌-◌, ◌^◌, ◌≤◌, ◌<◌}
use mathlib.Core.Path.{◌≡◌, refl, sym, subst, ap, ◌∙◌}
use mathlib.Core.Bool.{Bool, true, false, cond}
use mathlib.Core.List.{List}
use native.Mathlib.Omega.{arith}
use borrow.Author.Tests.{le-leb, eqb-true, eqb-false, eq-eqb, ne_eqb}
use lib.ListN.{length}
use lib.Dec.{leb, eqb}
use Rattle.spans.specs.Span.{part}
use Rattle.spans.proofs.Part.{length_part}
use Rattle.numbers.specs.Number.{le_at, Bytes}
use Rattle.numbers.proofs.Numbers.{le_at_lt}
use Rattle.order.specs.declared.Ver.{Ver}
use Rattle.order.specs.Version.{ver_of}
use Rattle.frames.specs.declared.Addr.{Addr}
use Rattle.frames.specs.declared.PageId.{PageId}
use Rattle.frames.specs.declared.BoxHeader.{BoxHeader}
use Rattle.frames.specs.declared.Body.{Body}
use Rattle.frames.specs.declared.Refusal.{Refusal}
use Rattle.frames.specs.Layout.{box_len, base_len, addr, page_id, box_at, base_fields, base_ok, page_of, page_at, body_of, open_of, open_at, remote_at, box_base}
use Rattle.frames.specs.Limits.{max_entries, max_key, max_value}
use Rattle.frames.proofs.Frames.{open_inside}
use Rattle.pages.specs.declared.Place.{Place}
use Rattle.pages.specs.Boundaries.{place, bounds_of, bounds_at}
use Rattle.walks.specs.declared.Walk.{Walk}
use Rattle.walks.specs.declared.Item.{Item}
use Rattle.walks.specs.declared.Branch.{Branch}
use Rattle.walks.specs.Walk.{sheet_of, older_on, walk_of, up_way, up_range, forward_at, step_at}
use Rattle.walks.proofs.Hands.{Holding, Valued, Keyed, found_handed, leads_handed}
use Rattle.build_sources.specs.declared.Cursor.{Cursor}
use Rattle.build_sources.specs.declared.EntryAt.{EntryAt}
use Rattle.build_sources.specs.declared.EntryRead.{EntryRead}
use Rattle.build_sources.specs.declared.EntryRead.TheVariants.{Got, End, Bad}
use Rattle.build_sources.specs.Pages.{whole_of, whole_at, first_in, page_first, page_item, page_past, item_at, walked_of, walked, turned_of, turned, pages_of, pages_next}
use Rattle.build_sources.specs.Source.{next_of, entry_of, entries}
use Rattle.build_sources.specs.Marks.{Each, Held, Keeps}
use Rattle.build_sources.proofs.Marked.{each}
use Rattle.law_rows.specs.Pairs.{Carried}
use Rattle.std.proofs.Common.{Option, Some, None, Result, Ok, Err}
use Rattle.walks.specs.declared.Step.{Step}

-- ---- how a cursor begins on a page

-- where a page's count of elements and its sibling stand (it belongs to `frames`)
record Fields (s : List ℕ) (a : Addr) (b : Body) : Type 0 where
  at : b.at ≡ a.0 + box_len
  elems : b.elems ≡ le_at 2 s (a.0 + box_len + 4)
  sibling : b.sibling.0 ≡ le_at 8 s (a.0 + box_len + 8)

fields_are : (s : List ℕ) (a : Addr) (b : Body) → open_at s a ≡ Some b → Fields s a b
unfolding open_at page_at body_of base_fields
fields_are s a b e = go (box_at s a) e
  where
    no : None ≡ Some b → ⊥
    no z = let x : ◌≡◌ {A = ℕ} 0 1 = cc in omega arith

    by : (h : BoxHeader) (t u v : Bool) → open_of a (cond t (cond u (cond v (Some (h, base_fields s (a.0 + box_len))) None) None) None) ≡ Some b → Fields s a b
    by h true true true q = let x : body_of a h (base_fields s (a.0 + box_len)) ≡ b = cc in rw (← x) (record { at = refl; elems = refl; sibling = refl })
    by h true true false q = absurd (no q)
    by h true false v q = absurd (no q)
    by h false u v q = absurd (no q)

    go : (f : Option BoxHeader) → open_of a (page_of s a.0 f) ≡ Some b → Fields s a b
    go (Some h) q = by h (eqb h.box_kind box_base) (leb base_len h.payload_size) (base_ok h (base_fields s (a.0 + box_len))) q
    go None q = absurd (no q)

-- the count is a u16
elems-few : (s : List ℕ) → Bytes s → (a : Addr) (b : Body) → open_at s a ≡ Some b → b.elems ≤ max_entries
elems-few s y a b e =
    let i = (open_inside s a b e).0 in
    let k = fields_are s a b e in
    omega (arith, k.elems, le_at_lt s (a.0 + box_len + 4) 2 (omega (arith, k.at, i.slots, i.records, i.payload, i.arena)) y)

-- the sibling's page id a u64
pub sibling-wide : (s : List ℕ) → Bytes s → (a : Addr) (b : Body) → open_at s a ≡ Some b → b.sibling.0 < 256 ^ 8
sibling-wide s y a b e =
    let i = (open_inside s a b e).0 in
    let k = fields_are s a b e in
    omega (arith, k.sibling, le_at_lt s (a.0 + box_len + 8) 8 (omega (arith, k.at, i.slots, i.records, i.payload, i.arena)) y)

-- a walk over a whole page
abbrev pub whole_walk : Body → Walk
whole_walk b = walk_of (sheet_of b) (up_way b.kind) 0 b.elems (place 0 0) (older_on b 0 0)

pub whole-walk : (w : List ℕ) (a : Addr) (b : Body) → open_at w a ≡ Some b → (b.kind ≡ 2 → ⊥) → forward_at w a 0 b.elems ≡ Ok (whole_walk b)
unfolding forward_at up_range
whole-walk w a b o k =
    let z : b.elems - 0 ≡ b.elems = omega arith in
    rw (o, ne_eqb b.kind 2 k, le-leb b.elems b.elems (omega arith)) (ap (λ (n : ℕ). Ok (walk_of (sheet_of b) (up_way b.kind) 0 n (place 0 0) (older_on b 0 0))) z)

-- the cursor in front of a page's first record
abbrev pub front_of : Cursor → Body → Addr → Cursor
front_of c b then = record { source = c.source; seen = c.seen; key = c.key; at = c.at; walk = whole_walk b; pre = (bounds_of b).prefix; then = then }

module _ (w : List ℕ) (c : Cursor) (a then : Addr) where
  module _ (b : Body) (o : open_at w a ≡ Some b) where
    whole_is : whole_at w a ≡ forward_at w a 0 b.elems
    unfolding whole_at
    whole_is = ap (whole_of w a) o

    pub bounds_are : (b.kind ≡ 2 → ⊥) → bounds_at w a ≡ Ok (bounds_of b)
    unfolding bounds_at
    bounds_are k = rw (o, ne_eqb b.kind 2 k)

    pub first-is : (b.kind ≡ 2 → ⊥) → page_first w c a then ≡ Some (front_of c b then)
    unfolding page_first
    first-is k = rw (whole_is ∙ whole-walk w a b o k, bounds_are k)

    history-walk : b.kind ≡ 2 → forward_at w a 0 b.elems ≡ Err Refusal.BadFrame
    unfolding forward_at
    history-walk k = rw (o, eq-eqb b.kind 2 k)

    first-history : b.kind ≡ 2 → page_first w c a then ≡ None
    unfolding page_first
    first-history k = ap (λ (v : Result Walk Refusal). first_in c then v (bounds_at w a)) (whole_is ∙ history-walk k)

  whole_none : open_at w a ≡ None → whole_at w a ≡ Err Refusal.BadFrame
  unfolding whole_at
  whole_none o = ap (whole_of w a) o

  first_none : open_at w a ≡ None → page_first w c a then ≡ None
  unfolding page_first
  first_none o = ap (λ (v : Result Walk Refusal). first_in c then v (bounds_at w a)) (whole_none o)

  -- only a page of the two kinds begins
  first_open : (d : Cursor) → page_first w c a then ≡ Some d → (b : Body) × (open_at w a ≡ Some b) × (d ≡ front_of c b then)
  first_open d e = go (open_at w a) refl
    where
      no : None ≡ Some d → ⊥
      no z = let x : ◌≡◌ {A = ℕ} 0 1 = cc in omega arith

      by : (b : Body) → open_at w a ≡ Some b → (t : Bool) → eqb b.kind 2 ≡ t → (b : Body) × (open_at w a ≡ Some b) × (d ≡ front_of c b then)
      by b o true q = absurd (no (sym (first-history b o (eqb-true b.kind 2 q)) ∙ e))
      by b o false q =
          let f = first-is b o (eqb-false b.kind 2 q) in
          let x : Some (front_of c b then) ≡ Some d = sym f ∙ e in
          let z : front_of c b then ≡ d = cc in
          (b, o, sym z)

      go : (o : Option Body) → open_at w a ≡ o → (b : Body) × (open_at w a ≡ Some b) × (d ≡ front_of c b then)
      go (Some b) o = by b o (eqb b.kind 2) refl
      go None o = absurd (no (sym (first_none o) ∙ e))

-- ---- what it keeps

pub record On (w : List ℕ) (c : Cursor) : Type 0 where
  pub kind : c.source ≡ 2
  pub holds : Holding w c.walk
  pub pre : c.pre.at + c.pre.len ≤ length w
  pub cut : c.pre.len ≡ c.walk.page.prefix_len

module _ (w : List ℕ) (y : Bytes w) where
  pub front-on : (c : Cursor) (a then : Addr) (b : Body) → c.source ≡ 2 → open_at w a ≡ Some b → On w (front_of c b then)
  unfolding bounds_of
  front-on c a then b k o =
      let i = (open_inside w a b o).0 in
      record {
        kind = k;
        holds = record { key = omega arith; whole = λ z. absurd (omega (arith, z)); heads = elems-few w y a b o; left = omega arith };
        pre = omega (arith, i.slots, i.records, i.payload, i.arena, i.prefix);
        cut = refl;
      }

  first_on : (c : Cursor) (a then : Addr) (d : Cursor) → c.source ≡ 2 → page_first w c a then ≡ Some d → On w d
  first_on c a then d k e =
      let g = first_open w c a then d e in
      subst (On w) (sym g.2) (front-on c a then g.0 k g.1)

  module _ (c : Cursor) (h : On w c) where
    older-on : (rest : Place) (v : Walk) → Keyed w c.walk rest v → On w (page_past c rest v)
    older-on rest v k = record { kind = h.kind; holds = k.holds; pre = h.pre; cut = h.cut ∙ ap (λ (p : _). p.prefix_len) (sym k.page) }

    item_is : (rest : Place) (ver : Ver) (value : Place) (kept : Addr) (page : PageId) (v : Walk) → Keyed w c.walk rest v → value.at + value.len ≤ length w → value.len ≤ max_value → item_at w c rest ver value kept page v ≡ Got (page_item w c rest ver value kept page) (page_past c rest v)
    unfolding item_at
    item_is rest ver value kept page v k p q =
        let l : c.pre.len + rest.len ≤ max_key = omega (arith, h.cut, k.whole) in
        rw (le-leb (c.pre.at + c.pre.len) (length w) h.pre, le-leb (rest.at + rest.len) (length w) k.inside, le-leb (value.at + value.len) (length w) p, le-leb (c.pre.len + rest.len) max_key l, le-leb value.len max_value q)

    walked_by : walked w c ≡ walked_of w c (step_at w c.walk)
    unfolding walked
    walked_by =
        let l : c.walk.older.left ≤ 4294967295 = omega (arith, h.holds.left) in
        rw (le-leb c.walk.heads max_entries h.holds.heads, le-leb c.walk.older.left 4294967295 l)

    pub found-is : (x : Item) (v : Walk) → step_at w c.walk ≡ Ok (Step.Found x v) → walked w c ≡ Got (page_item w c x.key x.ver x.value x.remote (page_id 0)) (page_past c x.key v)
    found-is x v e =
        let k = found_handed w y c.walk h.holds x v e in
        walked_by ∙ ap (walked_of w c) e ∙ item_is x.key x.ver x.value x.remote (page_id 0) v k.0 k.1.val k.1.small

    pub leads-is : (x : Branch) (v : Walk) → step_at w c.walk ≡ Ok (Step.Leads x v) → walked w c ≡ Got (page_item w c x.key (ver_of 0 0) (place 0 0) (addr 0) x.page) (page_past c x.key v)
    leads-is x v e =
        let k = leads_handed w y c.walk h.holds x v e in
        walked_by ∙ ap (walked_of w c) e ∙ item_is x.key (ver_of 0 0) (place 0 0) (addr 0) x.page v k.0 (omega arith) (omega arith)

    pub end_is : step_at w c.walk ≡ Ok Step.End → walked w c ≡ End
    end_is e = walked_by ∙ ap (walked_of w c) e

    pub found-on : (x : Item) (v : Walk) → step_at w c.walk ≡ Ok (Step.Found x v) → On w (page_past c x.key v)
    found-on x v e = older-on x.key v (found_handed w y c.walk h.holds x v e).0

    pub leads-on : (x : Branch) (v : Walk) → step_at w c.walk ≡ Ok (Step.Leads x v) → On w (page_past c x.key v)
    leads-on x v e = older-on x.key v (leads_handed w y c.walk h.holds x v e).0

    -- ---- what an entry of it is

    remote-held : (x : Item) → Valued w x → (x.remote.0 ≡ 0 → ⊥) → Held w x.remote.0 (part w x.value.at x.value.len)
    remote-held x k n =
        let l : length (part w x.value.at x.value.len) ≡ x.value.len = length_part w x.value.at x.value.len k.val in
        record { place = x.value.at; read = ap (λ (m : ℕ). remote_at w x.remote m) l ∙ k.held n; bytes = ap (λ (m : ℕ). part w x.value.at m) l }

    found-carried : (l : List ℕ) (x : Item) (v : Walk) → step_at w c.walk ≡ Ok (Step.Found x v) → Carried w (entry_of l w (page_item w c x.key x.ver x.value x.remote (page_id 0)))
    unfolding entry_of Keeps
    found-carried l x v e =
        let k = (found_handed w y c.walk h.holds x v e).1 in
        record { wide = record { txid = k.txid; cmd = k.cmd; kept = k.word; page = omega arith }; keeps = remote-held x k }

    leads-carried : (l : List ℕ) (x : Branch) (v : Walk) → step_at w c.walk ≡ Ok (Step.Leads x v) → Carried w (entry_of l w (page_item w c x.key (ver_of 0 0) (place 0 0) (addr 0) x.page))
    unfolding entry_of Keeps
    leads-carried l x v e =
        let k = (leads_handed w y c.walk h.holds x v e).1 in
        record { wide = record { txid = omega arith; cmd = omega arith; kept = omega arith; page = k }; keeps = λ n. absurd (n refl) }

    walked_on : (l : List ℕ) (i : EntryAt) (d : Cursor) → walked w c ≡ Got i d → Carried w (entry_of l w i) × On w d
    walked_on l i d e = go (step_at w c.walk) refl
      where
        same : (j : EntryAt) (f : Cursor) → walked w c ≡ Got j f → Carried w (entry_of l w j) → On w f → Carried w (entry_of l w i) × On w d
        same j f q a b =
            let x : Got j f ≡ Got i d = sym q ∙ e in
            let x1 : j ≡ i = cc in
            let x2 : f ≡ d = cc in
            (subst (λ (z : EntryAt). Carried w (entry_of l w z)) x1 a, subst (On w) x2 b)

        no : walked_of w c (step_at w c.walk) ≡ Got i d
        no = sym walked_by ∙ e

        go : (st : Result Step Refusal) → step_at w c.walk ≡ st → Carried w (entry_of l w i) × On w d
        go (Ok (Step.Found x v)) q = same _ _ (found-is x v q) (found-carried l x v q) (found-on x v q)
        go (Ok (Step.Leads x v)) q = same _ _ (leads-is x v q) (leads-carried l x v q) (leads-on x v q)
        go (Ok Step.End) q = absurd (let z : End ≡ Got i d = sym (ap (walked_of w c) q) ∙ no in let z' : ◌≡◌ {A = ℕ} 0 1 = cc in omega arith)
        go (Err n) q = absurd (let z : Bad ≡ Got i d = sym (ap (walked_of w c) q) ∙ no in let z' : ◌≡◌ {A = ℕ} 0 1 = cc in omega arith)

  pages-on : (l : List ℕ) (c : Cursor) (i : EntryAt) (d : Cursor) → On w c → pages_next w c ≡ Got i d → Carried w (entry_of l w i) × On w d
  unfolding pages_next turned
  pages-on l c i d h e = go (walked w c) refl e
    where
      no : Bad ≡ Got i d → ⊥
      no z = let x : ◌≡◌ {A = ℕ} 0 1 = cc in omega arith

      on : (b : Option Cursor) → page_first w c c.then (addr 0) ≡ b → turned_of w b ≡ Got i d → Carried w (entry_of l w i) × On w d
      on (Some f) q g = walked_on f (first_on c c.then (addr 0) f h.kind q) l i d g
      on None q g = absurd (no g)

      ends : (t : Bool) → cond t End (turned_of w (page_first w c c.then (addr 0))) ≡ Got i d → Carried w (entry_of l w i) × On w d
      ends true g = absurd (let z : ◌≡◌ {A = ℕ} 0 1 = cc in omega arith)
      ends false g = on (page_first w c c.then (addr 0)) refl g

      go : (st : EntryRead) → walked w c ≡ st → pages_of w c st ≡ Got i d → Carried w (entry_of l w i) × On w d
      go (Got j f) q e =
          let a : Got j f ≡ Got i d = e in
          walked_on c h l i d (q ∙ a)
      go End q e = ends (eqb c.then.0 0) e
      go Bad q e = absurd (no e)

  next-on : (l : List ℕ) (c : Cursor) (i : EntryAt) (d : Cursor) → On w c → next_of l w c ≡ Got i d → Carried w (entry_of l w i) × On w d
  unfolding next_of
  next-on l c i d h e = pages-on l c i d h (rw (eq-eqb c.source 2 h.kind) at e)

  -- THE LAW: every entry of pages, sound or not, is carried
  pub carried : (l : List ℕ) (c : Cursor) → On w c → Each (Carried w) (entries l w c)
  carried l c h = each l w (Carried w) (On w) (λ d i f g e. next-on l d i f g e) c h
