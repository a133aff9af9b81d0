-- What a step of a walk hands back, on every arena: places inside it, document 01's lengths, numbers of their widths, a remote that holds its
-- value.
-- Assumes nothing.
use Prim.Native.Nat.{ℕ, ◌+◌, ◌-◌, ◌^◌, ◌≤◌, ◌<◌}
use mathlib.Core.Path.{◌≡◌, refl, sym, subst, ap, ◌∙◌}
use mathlib.Core.Bool.{Bool, true, false, cond}
use mathlib.Core.List.{List}
use native.Mathlib.Omega.{arith}
use borrow.Author.Tests.{ltb-true, ltb-false, eqb-true, eqb-false, eq-eqb, ne_eqb}
use lib.ListN.{length}
use lib.Dec.{ltb, eqb}
use Rattle.numbers.specs.Number.{le_at, Bytes}
use Rattle.numbers.proofs.Numbers.{le_at_lt}
use Rattle.frames.specs.declared.Addr.{Addr}
use Rattle.frames.specs.Layout.{addr, remote_at}
use Rattle.frames.specs.Limits.{max_entries, max_key, max_value}
use Rattle.values.specs.declared.HistRef.{HistRef}
use Rattle.records.specs.declared.Rec.{Rec}
use Rattle.values.specs.Keys.{ver_in}
use Rattle.records.proofs.Inside.{at-inside, ver-inside}
use Rattle.pages.specs.declared.Place.{Place}
use Rattle.pages.specs.Sound.{history_at}
use Rattle.walks.specs.declared.Sheet.{Sheet}
use Rattle.walks.specs.declared.OldPlace.{OldPlace}
use Rattle.walks.specs.declared.Walk.{Walk}
use Rattle.walks.specs.declared.Item.{Item}
use Rattle.walks.specs.declared.Branch.{Branch}
use Rattle.walks.specs.Walk.{body_in, older_on, read_at, kind_of_way, on_of, behind_of, item_of, rest_of, next_rec, next_in, next_link, next_old, enter_of, enter_at, leads_to, head_older, head_rec, head_step, old_step, step_at}
use Rattle.walks.proofs.Lying.{read-inside, index_value}
use Rattle.walks.proofs.Held.{RecHeld, rec-held}
use Rattle.std.proofs.Common.{Option, Some, None, Result, Ok, Err}
use Rattle.frames.specs.declared.Body.{Body}
use Rattle.frames.specs.declared.Refusal.{Refusal}
use Rattle.walks.specs.declared.Step.{Step}

-- what a walk carries: the key of the head whose history is left lies in the arena and is short; its counts are a page's
pub record Holding (s : List ℕ) (v : Walk) : Type 0 where
  pub key : v.key.at + v.key.len ≤ length s
  pub whole : 0 < v.older.left → v.page.prefix_len + v.key.len ≤ max_key
  pub heads : v.heads ≤ max_entries
  pub left : v.older.left < 256 ^ 4

-- an item's value and version
pub record Valued (s : List ℕ) (x : Item) : Type 0 where
  pub val : x.value.at + x.value.len ≤ length s
  pub small : x.value.len ≤ max_value
  pub held : (x.remote.0 ≡ 0 → ⊥) → remote_at s x.remote x.value.len ≡ Some x.value.at
  pub word : x.remote.0 < 256 ^ 8
  pub txid : x.ver.txid < 256 ^ 8
  pub cmd : x.ver.cmd < 256 ^ 4

-- the key, and the walk behind: what any record handed back has
pub record Keyed (s : List ℕ) (v : Walk) (key : Place) (v' : Walk) : Type 0 where
  pub inside : key.at + key.len ≤ length s
  pub whole : v.page.prefix_len + key.len ≤ max_key
  pub holds : Holding s v'
  pub page : v'.page ≡ v.page

abbrev Handed : List ℕ → Walk → Result Step Refusal → Type 0
Handed s v (Ok (Step.Found x v')) = Keyed s v x.key v' × Valued s x
Handed s v (Ok (Step.Leads x v')) = Keyed s v x.key v' × (x.page.0 < 256 ^ 8)
Handed s v (Ok Step.End) = Unit {0}
Handed s v (Err r) = Unit {0}

no_old : {x : Item} {q : OldPlace} → ◌≡◌ {A = Option (Item × OldPlace)} None (Some (x, q)) → ⊥
no_old n = let z : ◌≡◌ {A = ℕ} 0 1 = cc in omega arith

module _ (s : List ℕ) (y : Bytes s) where
  valued : (v : Sheet) (k j : ℕ) (r : Rec) (key : Place) (n : Addr) → (k ≡ 1 → ⊥) → read_at s v k j ≡ Some r → Valued s (item_of s key r n)
  unfolding item_of ver_in
  valued v k j r key n ne e =
      let g = read-inside s v k j r e in
      let i = (at-inside s (body_in v k) j r g.0 g.1).0 in
      let h = rec-held s y (body_in v k) j r g.1 in
      let u = ver-inside s (body_in v k) j r g.0 ne g.1 in
      record { val = i.val; small = h.small; held = h.held; word = h.word; txid = le_at_lt s r.ver_at 8 (omega (arith, u)) y; cmd = le_at_lt s (r.ver_at + 8) 4 (omega (arith, u)) y }

  -- ---- an old version

  record Passed (at : Place) (left : ℕ) (x : Item) (q : OldPlace) : Type 0 where
    key : x.key ≡ at
    valued : Valued s x
    less : q.left ≡ left - 1

  in_passed : (key : Place) (p : OldPlace) (n : Addr) (x : Item) (q : OldPlace) → next_in s key p n ≡ Some (x, q) → Passed key p.left x q
  unfolding next_in item_of
  in_passed key p n x q e = go (read_at s p.page 2 p.slot) refl e
    where
      go : (o : Option Rec) → read_at s p.page 2 p.slot ≡ o → next_rec s key p n o ≡ Some (x, q) → Passed key p.left x q
      go (Some r) t e' =
          let x1 : item_of s key r n ≡ x = grind arith in
          let x2 : p.left - 1 ≡ q.left = grind arith in
          record { key = rw (← x1); valued = rw (← x1) (valued p.page 2 p.slot r key n (λ z. omega arith) t); less = sym x2 }
      go None t e' = absurd (no_old e')

  next-passed : (key : Place) (p : OldPlace) (x : Item) (q : OldPlace) → next_old s key p ≡ Some (x, q) → Passed key p.left x q
  unfolding next_old
  next-passed key p x q e = go (eqb p.slot p.page.elems) e
    where
      link : (o : Option Body) → next_link s key p.left p.link o ≡ Some (x, q) → Passed key p.left x q
      link (Some b) e' = in_passed key (older_on b 0 p.left) p.link x q e'
      link None e' = absurd (no_old e')

      go : (t : Bool) → cond t (next_link s key p.left p.link (history_at s p.link)) (next_in s key p (addr 0)) ≡ Some (x, q) → Passed key p.left x q
      go true e' = link (history_at s p.link) e'
      go false e' = in_passed key p (addr 0) x q e'

  module _ (v : Walk) (h : Holding s v) where
    old_handed : 0 < v.older.left → Handed s v (old_step v (next_old s v.key v.older))
    unfolding behind_of
    old_handed l = go (next_old s v.key v.older) refl
      where
        go : (o : Option (Item × OldPlace)) → next_old s v.key v.older ≡ o → Handed s v (old_step v o)
        go (Some (x, q)) e =
            let t = next-passed v.key v.older x q e in (
              record {
                inside = rw t.key h.key;
                whole = rw t.key (h.whole l);
                holds = record { key = h.key; whole = λ z. h.whole l; heads = h.heads; left = omega (arith, t.less, h.left) };
                page = refl;
              },
              t.valued,
            )
        go None e = tt

    -- ---- a head

    -- a head's history has the count that it says, or is what was left
    enter_left : (r : HistRef) (q : OldPlace) → r.count < 256 ^ 4 → enter_at s r v.older ≡ Some q → q.left < 256 ^ 4
    unfolding enter_at
    enter_left r q l e = go (eqb r.count 0) e
      where
        no : None ≡ Some q → ⊥
        no n = let z : ◌≡◌ {A = ℕ} 0 1 = cc in omega arith

        by : (t : Bool) (p : OldPlace) → p.left < 256 ^ 4 → cond t (Some p) None ≡ Some q → q.left < 256 ^ 4
        by true p m e' = let x : p ≡ q = cc in rw (← x) m
        by false p m e' = absurd (no e')

        in_page : (o : Option Body) → enter_of r.slot r.count o ≡ Some q → q.left < 256 ^ 4
        in_page (Some b) e' = by (ltb r.slot b.elems) (older_on b r.slot r.count) l e'
        in_page None e' = absurd (no e')

        go : (t : Bool) → cond t (Some v.older) (enter_of r.slot r.count (history_at s r.page)) ≡ Some q → q.left < 256 ^ 4
        go true e' = let x : v.older ≡ q = cc in rw (← x) h.left
        go false e' = in_page (history_at s r.page) e'

    head_keyed : (k : ℕ) (r : Rec) (q : OldPlace) → read_at s v.page k v.pos ≡ Some r → q.left < 256 ^ 4 → Keyed s v (rest_of r) (on_of v (rest_of r) q)
    unfolding on_of
    head_keyed k r q e l =
        let g = read-inside s v.page k v.pos r e in
        let i = (at-inside s (body_in v.page k) v.pos r g.0 g.1).0 in
        let w = (rec-held s y (body_in v.page k) v.pos r g.1).whole in
        let u : r.rest_at + r.rest_len ≤ length s = omega (arith, i.rest, g.0.payload, g.0.arena) in
        record { inside = u; whole = w; holds = record { key = u; whole = λ z. w; heads = omega (arith, h.heads); left = l }; page = refl }

    way_leaf : (v.way ≡ 2 → ⊥) → kind_of_way v.way ≡ 1 → ⊥
    unfolding kind_of_way
    way_leaf n e = let z : ◌≡◌ {A = ℕ} 0 1 = rw (ne_eqb v.way 2 n) at e in omega arith

    way_index : v.way ≡ 2 → kind_of_way v.way ≡ 1
    unfolding kind_of_way
    way_index e = rw (eq-eqb v.way 2 e)

    head_handed : Handed s v (head_step s v)
    unfolding head_step item_of
    head_handed = go (read_at s v.page (kind_of_way v.way) v.pos) refl
      where
        k : ℕ
        k = kind_of_way v.way

        older : (r : Rec) → read_at s v.page k v.pos ≡ Some r → (v.way ≡ 2 → ⊥) → (o : Option OldPlace) → enter_at s r.hist v.older ≡ o → Handed s v (head_older s v r o)
        older r e n (Some q) f =
            let g = read-inside s v.page k v.pos r e in
            let c = (rec-held s y (body_in v.page k) v.pos r g.1).count in
            (head_keyed k r q e (enter_left r.hist q c f), valued v.page k v.pos r (rest_of r) r.hist.page (way_leaf n) e)
        older r e n None f = tt

        leads : (r : Rec) → read_at s v.page k v.pos ≡ Some r → v.way ≡ 2 → Handed s v (leads_to s v r)
        leads r e n =
            let g = read-inside s v.page k v.pos r e in
            let i = (at-inside s (body_in v.page k) v.pos r g.0 g.1).0 in
            let x = index_value s (body_in v.page k) v.pos r (way_index n) g.1 in
            (head_keyed k r v.older e h.left, le_at_lt s r.val_at 8 (omega (arith, i.val, x)) y)

        either : (r : Rec) → read_at s v.page k v.pos ≡ Some r → (t : Bool) → eqb v.way 2 ≡ t → Handed s v (cond t (leads_to s v r) (head_older s v r (enter_at s r.hist v.older)))
        either r e true t = leads r e (eqb-true v.way 2 t)
        either r e false t = older r e (eqb-false v.way 2 t) (enter_at s r.hist v.older) refl

        go : (o : Option Rec) → read_at s v.page (kind_of_way v.way) v.pos ≡ o → Handed s v (head_rec s v o)
        go (Some r) e = either r e (eqb v.way 2) refl
        go None e = tt

    handed : Handed s v (step_at s v)
    unfolding step_at
    handed = go (ltb 0 v.older.left) refl
      where
        ends : (t : Bool) → Handed s v (cond t (Ok Step.End) (head_step s v))
        ends true = tt
        ends false = head_handed

        go : (t : Bool) → ltb 0 v.older.left ≡ t → Handed s v (cond t (old_step v (next_old s v.key v.older)) (cond (eqb v.heads 0) (Ok Step.End) (head_step s v)))
        go true e = old_handed (ltb-true 0 v.older.left e)
        go false e = ends (eqb v.heads 0)

    -- THE LAWS
    pub found_handed : (x : Item) (v' : Walk) → step_at s v ≡ Ok (Step.Found x v') → Keyed s v x.key v' × Valued s x
    found_handed x v' e = subst (Handed s v) e handed

    pub leads_handed : (x : Branch) (v' : Walk) → step_at s v ≡ Ok (Step.Leads x v') → Keyed s v x.key v' × (x.page.0 < 256 ^ 8)
    leads_handed x v' e = subst (Handed s v) e handed
