-- Two pages that say something, read one behind the other: the source begins and ends well, and lists the left's records, then the right's.
-- Assumes nothing.
use Prim.Native.Nat.{ℕ, ◌-◌}
use mathlib.Core.Path.{◌≡◌, refl, sym, subst, ap, ◌∙◌}
use mathlib.Core.Bool.{Bool, true, false, cond}
use mathlib.Core.List.{List, [], ◌∷◌, ◌++◌, map, append-nil}
use native.Mathlib.Omega.{arith}
use borrow.Author.Tests.{eq-eqb, ne_eqb}
use lib.ListN.{length, take, drop}
use lib.Seq.{take-length}
use lib.Dec.{eqb}
use Rattle.spans.proofs.Part.{part_or_in}
use Rattle.numbers.specs.Number.{Bytes}
use Rattle.order.specs.Version.{ver_of}
use Rattle.frames.specs.declared.Addr.{Addr}
use Rattle.frames.specs.declared.Body.{Body}
use Rattle.frames.specs.Layout.{addr, page_id, open_at}
use Rattle.frames.proofs.Frames.{open_inside}
use Rattle.pages.specs.Boundaries.{place, part_in, bounds_of, bounds_at, prefix_at}
use Rattle.pages.specs.Meaning.{Head, Child, leaf, index, Page, says, head_of, child_of, heads_from, children_from, page_says, meaning}
use Rattle.pages.proofs.Given.{Sound, sound_given, every_slot}
use Rattle.pages.proofs.Rows.{rows-many}
use Rattle.pages.proofs.Says.{prefix_says}
use Rattle.walks.specs.declared.Walk.{Walk}
use Rattle.walks.specs.declared.Item.{Item}
use Rattle.walks.specs.declared.Branch.{Branch}
use Rattle.walks.specs.Walk.{forward_at, step_at}
use Rattle.walks.specs.Listed as listed
use Rattle.walks.specs.Listed.{entries_of, lead_of, WalksTo, LeadsTo}
use Rattle.walks.proofs.Says.{forward_lists, forward_leads}
use Rattle.walks.proofs.Hands.{found_handed}
use Rattle.build_sources.specs.declared.Cursor.{Cursor}
use Rattle.build_sources.specs.declared.EntryAt.{EntryAt}
use Rattle.build_sources.specs.declared.EntryRead.{EntryRead}
use Rattle.build_sources.specs.declared.EntryRead.TheVariants.{Got, End, Bad}
use Rattle.build_sources.specs.Keys.{key_bytes}
use Rattle.build_sources.specs.Lists.{first_of}
use Rattle.build_sources.specs.Pages.{page_first, page_item, page_past, walked, turned, pages_next}
use Rattle.build_sources.specs.Source.{Entry, next_of, entry_of, entries, well_formed}
use Rattle.build_sources.specs.Marks.{Each}
use Rattle.build_sources.proofs.Sourced.{found, ended, odd}
use Rattle.build_sources.proofs.Marked.{marked, short}
use Rattle.law_rows.specs.Pairs.{bare, child, NoPage, NoVersion}
use Rattle.law_two_pages.specs.Pairs.{Reads}
use Rattle.law_two_pages.proofs.On.{On, whole_walk, whole-walk, front_of, first-is, front-on, found-is, leads-is, end_is, found-on, leads-on, carried}
use Rattle.std.proofs.Common.{Some, Ok}
use Rattle.walks.specs.declared.Step.{Step}

-- ---- the end of a page

module _ (l w : List ℕ) where
  -- cursors with one step have one list
  same_next : (c d : Cursor) → next_of l w c ≡ next_of l w d → (entries l w c ≡ entries l w d) × (well_formed l w c ≡ well_formed l w d)
  same_next c d e = go (next_of l w d) refl
    where
      go : (st : EntryRead) → next_of l w d ≡ st → (entries l w c ≡ entries l w d) × (well_formed l w c ≡ well_formed l w d)
      go (Got i f) q =
          let a = found l w c i f (e ∙ q) in
          let b = found l w d i f q in
          (a.list ∙ sym b.list, a.well ∙ sym b.well)
      go End q =
          let a = ended l w c (e ∙ q) in
          let b = ended l w d q in
          (a.0 ∙ sym b.0, a.1 ∙ sym b.1)
      go Bad q =
          let a = odd l w c (e ∙ q) in
          let b = odd l w d q in
          (a.0 ∙ sym b.0, a.1 ∙ sym b.1)

  module _ (c : Cursor) (k : c.source ≡ 2) where
    next_got : (i : EntryAt) (d : Cursor) → walked w c ≡ Got i d → next_of l w c ≡ Got i d
    unfolding next_of pages_next
    next_got i d e = rw (eq-eqb c.source 2 k, e)

    next-end : walked w c ≡ End → c.then.0 ≡ 0 → next_of l w c ≡ End
    unfolding next_of pages_next turned
    next-end e z = rw (eq-eqb c.source 2 k, e, eq-eqb c.then.0 0 z)

    next_turn : walked w c ≡ End → (c.then.0 ≡ 0 → ⊥) → (d : Cursor) → page_first w c c.then (addr 0) ≡ Some d → next_of l w c ≡ walked w d
    unfolding next_of pages_next turned
    next_turn e n d f = rw (eq-eqb c.source 2 k, e, ne_eqb c.then.0 0 n, f)

    next_bad : walked w c ≡ Bad → next_of l w c ≡ Bad
    unfolding next_of pages_next
    next_bad e = rw (eq-eqb c.source 2 k, e)

    -- with no page behind, a step is one of the page
    next_last : c.then.0 ≡ 0 → next_of l w c ≡ walked w c
    next_last z = go (walked w c) refl
      where
        go : (st : EntryRead) → walked w c ≡ st → next_of l w c ≡ walked w c
        go (Got i d) e = next_got i d e ∙ sym e
        go End e = next-end e z ∙ sym e
        go Bad e = next_bad e ∙ sym e

-- ---- any two pages whose walks list what tell says

-- one step of a walk that lists x and then xs
pub record Gone {A : Type 0} (tell : Entry → A) (P : Entry → Type 0) (Goes : List ℕ → Walk → List A → Type 0) (l w p : List ℕ) (c : Cursor) (x : A) (xs : List A) : Type 0 where
  pub item : EntryAt
  pub older : Cursor
  pub step : walked w c ≡ Got item older
  pub on : On w older
  pub told : tell (entry_of l w item) ≡ x
  pub kind : P (entry_of l w item)
  pub pre : older.pre ≡ c.pre
  pub then : older.then ≡ c.then
  pub more : Goes p older.walk xs

-- a page whose walk lists xs
pub record Walkable {A : Type 0} (Goes : List ℕ → Walk → List A → Type 0) (w : List ℕ) (a : Addr) (xs : List A) : Type 0 where
  pub body : Body
  pub opened : open_at w a ≡ Some body
  pub kind : body.kind ≡ 2 → ⊥
  pub pre : List ℕ
  pub prefix : part_in w (bounds_of body).prefix ≡ pre
  pub goes : Goes pre (whole_walk body) xs

module _ {A : Type 0} (tell : Entry → A) (P : Entry → Type 0) (Goes : List ℕ → Walk → List A → Type 0) (l w : List ℕ) (y : Bytes w)
    (ends : (p : List ℕ) (v : Walk) → Goes p v [] → step_at w v ≡ Ok Step.End)
    (goes : (p : List ℕ) (c : Cursor) (x : A) (xs : List A) → On w c → part_in w c.pre ≡ p → Goes p c.walk (x ∷ xs) → Gone tell P Goes l w p c x xs) where
  record Lists (c : Cursor) (xs : List A) : Type 0 where
    list : map tell (entries l w c) ≡ xs
    well : well_formed l w c ≡ true
    kind : Each P (entries l w c)

  each_more : (c : Cursor) (e : Entry) (es : List Entry) → entries l w c ≡ e ∷ es → P e → Each P es → Each P (entries l w c)
  unfolding Each
  each_more c e es q a b = rw q (a, b)

  each_none : (c : Cursor) → entries l w c ≡ [] → Each P (entries l w c)
  unfolding Each
  each_none c q = rw q tt

  -- a page's records, and then what follows
  lists : (xs : List A) (c : Cursor) (p : List ℕ) (t : Addr) → On w c → part_in w c.pre ≡ p → c.then ≡ t → Goes p c.walk xs → (rest : List A)
      → ((d : Cursor) → On w d → d.then ≡ t → walked w d ≡ End → Lists d rest) → Lists c (xs ++ rest)
  lists [] c p t h e q g rest f = f c h q (end_is w y c h (ends p c.walk g))
  lists (x ∷ xs) c p t h e q g rest f =
      let s = goes p c x xs h e g in
      let n = found l w c s.item s.older (next_got l w c h.kind s.item s.older s.step) in
      let r = lists xs s.older p t s.on (rw s.pre e) (s.then ∙ q) s.more rest f in
      record { list = ap (map tell) n.list ∙ rw (s.told, r.list); well = n.well ∙ r.well; kind = each_more c (entry_of l w s.item) (entries l w s.older) n.list s.kind r.kind }

  module _ (left right : Addr) (xs ys : List A) (a : Walkable Goes w left xs) (b : Walkable Goes w right ys) where
    -- behind the right page there is nothing
    last : (d : Cursor) → On w d → d.then ≡ addr 0 → walked w d ≡ End → Lists d []
    last d h q e =
        let n = ended l w d (next-end l w d h.kind e (ap (λ (t : Addr). t.0) q)) in
        record { list = ap (map tell) n.0; well = n.1; kind = each_none d n.0 }

    -- behind the left, the right
    behind : (d : Cursor) → On w d → d.then ≡ right → walked w d ≡ End → Lists d ys
    behind d h q e =
        let f = front_of d b.body (addr 0) in
        let o = first-is w d right (addr 0) b.body b.opened b.kind in
        let u = (open_inside w right b.body b.opened).1 in
        let n : d.then.0 ≡ 0 → ⊥ = λ z. omega (arith, u, z, ap (λ (t : Addr). t.0) q) in
        let on = front-on w y d right (addr 0) b.body h.kind b.opened in
        let s = same_next l w d f (next_turn l w d h.kind e n f (ap (λ (t : Addr). page_first w d t (addr 0)) q ∙ o) ∙ sym (next_last l w f on.kind refl)) in
        let r = lists ys f b.pre (addr 0) on b.prefix refl b.goes [] last in
        record { list = ap (map tell) s.0 ∙ r.list ∙ append-nil ys; well = s.1 ∙ r.well; kind = subst (Each P) (sym s.0) r.kind }

    pub pair : Reads tell P l w (page_first w (first_of 2) left right) (xs ++ ys)
    pair =
        let c = front_of (first_of 2) a.body right in
        let on = front-on w y (first_of 2) left right a.body refl a.opened in
        let r = lists xs c a.pre right on a.prefix refl a.goes ys behind in
        record {
          cursor = c;
          begun = first-is w (first_of 2) left right a.body a.opened a.kind;
          well = r.well;
          list = r.list;
          kind = r.kind;
          marks = marked l w c refl;
          short = short l w c;
          carried = carried w y l c on;
        }

-- ---- a page with a meaning is such a page

all-taken : {A : Type 0} (xs : List A) → take (length xs - 0) (drop 0 xs) ≡ xs
all-taken xs =
    let z : length xs - 0 ≡ length xs = omega arith in
    ap (λ (n : ℕ). take n xs) z ∙ take-length xs

module _ (w : List ℕ) (a : Addr) (p : Page) (m : meaning w a ≡ says p) where
  pre_says : (g : Sound w a p) → part_in w (bounds_of g.body).prefix ≡ p.prefix
  unfolding prefix_at bounds_at
  pre_says g = rw (g.opened, ne_eqb g.body.kind 2 g.kind) at (prefix_says w a p m)

  whole-begins : (g : Sound w a p) (v : Walk) → forward_at w a 0 g.body.elems ≡ Ok v → whole_walk g.body ≡ v
  whole-begins g v e =
      let q : Ok (whole_walk g.body) ≡ Ok v = sym (whole-walk w a g.body g.opened g.kind) ∙ e in
      cc

  module _ (hs : List Head) (e : p.rows ≡ leaf hs) where
    many-heads : (g : Sound w a p) → length hs ≡ g.body.elems
    unfolding page_says
    many-heads g = go (eqb g.body.kind 1) (ap (λ (q : Page). q.rows) g.said ∙ e)
      where
        go : (t : Bool) → cond t (index (children_from w g.body g.body.elems 0)) (leaf (heads_from w g.body g.body.elems 0)) ≡ leaf hs → length hs ≡ g.body.elems
        go true q = absurd (let z : ◌≡◌ {A = ℕ} 0 1 = cc in omega arith)
        go false q =
            let x : heads_from w g.body g.body.elems 0 ≡ hs = cc in
            ap length (sym x) ∙ rows-many (head_of w g.body) w g.body (every_slot w g.body g.slots) g.body.elems 0 (omega arith)

    leaf_walkable : Walkable (WalksTo w) w a (entries_of hs)
    leaf_walkable =
        let g = sound_given w a p m in
        let n = many-heads g in
        let f = forward_lists w a p m hs e 0 (length hs) (omega arith) in
        let v = whole-begins g f.walk (ap (λ (k : ℕ). forward_at w a 0 k) (sym n) ∙ f.begun) in
        record { body = g.body; opened = g.opened; kind = g.kind; pre = p.prefix; prefix = pre_says g; goes = rw v (rw (all-taken hs) at f.lists) }

  module _ (cs : List Child) (e : p.rows ≡ index cs) where
    many_children : (g : Sound w a p) → length cs ≡ g.body.elems
    unfolding page_says
    many_children g = go (eqb g.body.kind 1) (ap (λ (q : Page). q.rows) g.said ∙ e)
      where
        go : (t : Bool) → cond t (index (children_from w g.body g.body.elems 0)) (leaf (heads_from w g.body g.body.elems 0)) ≡ index cs → length cs ≡ g.body.elems
        go true q =
            let x : children_from w g.body g.body.elems 0 ≡ cs = cc in
            ap length (sym x) ∙ rows-many (child_of w g.body) w g.body (every_slot w g.body g.slots) g.body.elems 0 (omega arith)
        go false q = absurd (let z : ◌≡◌ {A = ℕ} 0 1 = cc in omega arith)

    index_walkable : Walkable (LeadsTo w) w a cs
    index_walkable =
        let g = sound_given w a p m in
        let n = many_children g in
        let f = forward_leads w a p m cs e 0 (length cs) (omega arith) in
        let v = whole-begins g f.walk (ap (λ (k : ℕ). forward_at w a 0 k) (sym n) ∙ f.begun) in
        record { body = g.body; opened = g.opened; kind = g.kind; pre = p.prefix; prefix = pre_says g; goes = rw v (rw (all-taken cs) at f.leads) }

-- ---- what a record says

module _ (l w : List ℕ) (y : Bytes w) (p : List ℕ) (c : Cursor) (h : On w c) (e : part_in w c.pre ≡ p) where
  found-bare : (x : Item) (v : Walk) → step_at w c.walk ≡ Ok (Step.Found x v) → bare (entry_of l w (page_item w c x.key x.ver x.value x.remote (page_id 0))) ≡ listed.entry_of w p x
  unfolding bare entry_of key_bytes listed.entry_of
  found-bare x v s =
      let k = (found_handed w y c.walk h.holds x v s).1 in
      rw (e, part_or_in w x.value.at x.value.len k.val)

  leads-child : (x : Branch) → child (entry_of l w (page_item w c x.key (ver_of 0 0) (place 0 0) (addr 0) x.page)) ≡ lead_of w p x
  unfolding child entry_of key_bytes lead_of
  leads-child x = rw e

  page_none : (x : Item) → NoPage (entry_of l w (page_item w c x.key x.ver x.value x.remote (page_id 0)))
  unfolding entry_of
  page_none x = refl

  version_none : (x : Branch) → NoVersion (entry_of l w (page_item w c x.key (ver_of 0 0) (place 0 0) (addr 0) x.page))
  unfolding entry_of
  version_none x = refl

  leaf_gone : (x : listed.Entry) (xs : List listed.Entry) → WalksTo w p c.walk (x ∷ xs) → Gone bare NoPage (WalksTo w) l w p c x xs
  unfolding WalksTo
  leaf_gone x xs g =
      record {
        item = page_item w c g.0.key g.0.ver g.0.value g.0.remote (page_id 0);
        older = page_past c g.0.key g.1;
        step = found-is w y c h g.0 g.1 g.2;
        on = found-on w y c h g.0 g.1 g.2;
        told = found-bare g.0 g.1 g.2 ∙ g.3;
        kind = page_none g.0;
        pre = refl;
        then = refl;
        more = g.4;
      }

  index_gone : (x : Child) (xs : List Child) → LeadsTo w p c.walk (x ∷ xs) → Gone child NoVersion (LeadsTo w) l w p c x xs
  unfolding LeadsTo
  index_gone x xs g =
      record {
        item = page_item w c g.0.key (ver_of 0 0) (place 0 0) (addr 0) g.0.page;
        older = page_past c g.0.key g.1;
        step = leads-is w y c h g.0 g.1 g.2;
        on = leads-on w y c h g.0 g.1 g.2;
        told = leads-child g.0 ∙ g.3;
        kind = version_none g.0;
        pre = refl;
        then = refl;
        more = g.4;
      }

walks_end : (w p : List ℕ) (v : Walk) → WalksTo w p v [] → step_at w v ≡ Ok Step.End
unfolding WalksTo
walks_end w p v g = g

leads-end : (w p : List ℕ) (v : Walk) → LeadsTo w p v [] → step_at w v ≡ Ok Step.End
unfolding LeadsTo
leads-end w p v g = g

-- ---- THE LAWS: "every record of the left, then of the right"

module _ (l w : List ℕ) (y : Bytes w) (left right : Addr) (p q : Page) (m : meaning w left ≡ says p) (n : meaning w right ≡ says q) where
  pub two_leaves : (hs ks : List Head) → p.rows ≡ leaf hs → q.rows ≡ leaf ks → Reads bare NoPage l w (page_first w (first_of 2) left right) (entries_of hs ++ entries_of ks)
  two_leaves hs ks e f = pair bare NoPage (WalksTo w) l w y (walks_end w) (λ r c x xs h z g. leaf_gone l w y r c h z x xs g) left right (entries_of hs) (entries_of ks) (leaf_walkable w left p m hs e) (leaf_walkable w right q n ks f)

  pub two_indexes : (cs ds : List Child) → p.rows ≡ index cs → q.rows ≡ index ds → Reads child NoVersion l w (page_first w (first_of 2) left right) (cs ++ ds)
  two_indexes cs ds e f = pair child NoVersion (LeadsTo w) l w y (leads-end w) (λ r c x xs h z g. index_gone l w y r c h z x xs g) left right cs ds (index_walkable w left p m cs e) (index_walkable w right q n ds f)
