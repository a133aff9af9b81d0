-- What a history page in hand tells: its old versions stand where its slots point; the page behind it; a chain's turn from it.
-- Assumes nothing.
use Prim.Native.Nat.{ℕ, ◌+◌, ◌*◌, ◌-◌, ◌≤◌, ◌<◌}
use mathlib.Core.Path.{◌≡◌, refl, sym, ap, ◌∙◌, subst}
use mathlib.Core.Bool.{Bool, true, false, cond, ◌&&◌, not}
use mathlib.Core.List.{List}
use mathlib.Core.Logic.{⊎_elim}
use native.Mathlib.Omega.{arith}
use borrow.Author.Tests.{eqb-true, eqb-false, ltb-true, eq-eqb, ne_eqb, lt-ltb, le-ltb}
use lib.ListN.{length}
use lib.Dec.{ltb, eqb}
use Rattle.numbers.specs.Number.{le_at}
use Rattle.order.specs.declared.Ver.{Ver}
use Rattle.order.specs.Version.{newer_than}
use Rattle.frames.specs.declared.Addr.{Addr}
use Rattle.frames.specs.declared.Body.{Body}
use Rattle.frames.specs.Layout.{base_len, addr}
use Rattle.frames.proofs.Frames.{open_some}
use Rattle.values.specs.Keys.{ver_in}
use Rattle.records.specs.declared.Rec.{Rec}
use Rattle.records.specs.Records.{rec_at}
use Rattle.records.proofs.Inside.{old-place, ver-inside}
use Rattle.pages.specs.declared.Hand.{Hand}
use Rattle.pages.specs.declared.Spot.{Spot}
use Rattle.pages.specs.Sound.{slots_ok, history_at, hist_of, hist_ok, old_rec, old_in, old_link, old_at, chain_from, entered_of, entered, head_ok, old_version}
use Rattle.pages.specs.Hand.{hand_of, judged_of, judged_at, Held, Known, TurnsTo, TurnedTo}
use Rattle.pages.proofs.Turns.{chain_bad, chain_broken, chain_young, chain_more, head_chain, head_out}
use Rattle.pages.proofs.Given.{every_slot}
use Rattle.pages.proofs.Olds.{history-inside}
use Rattle.std.proofs.Common.{Option, Some, None}

-- ---- the page

taken_no : (h : Hand) → None ≡ Some h → ⊥
taken_no h e = let z : ◌≡◌ {A = ℕ} 0 1 = cc in omega arith

-- a page that was taken in hand is a history page, whole
record Page (s : List ℕ) (a : Addr) (h : Hand) : Type 0 where
  body : Body
  opened : history_at s a ≡ Some body
  whole : slots_ok s body ≡ true
  is : hand_of a body ≡ h

judged_given : (s : List ℕ) (a : Addr) (h : Hand) → judged_at s a ≡ Some h → Page s a h
unfolding judged_at
judged_given s a h e = go (history_at s a) refl e
  where
    by : (b : Body) → history_at s a ≡ Some b → (t : Bool) → slots_ok s b ≡ t → cond t (Some (hand_of a b)) None ≡ Some h → Page s a h
    by b o true w e' = let x : hand_of a b ≡ h = cc in record { body = b; opened = o; whole = w; is = x }
    by b o false w e' = absurd (taken_no h e')

    go : (o : Option Body) → history_at s a ≡ o → judged_of s a o ≡ Some h → Page s a h
    go (Some b) o e' = by b o (slots_ok s b) refl e'
    go None o e' = absurd (taken_no h e')

pub judged-held : (s : List ℕ) (a : Addr) (h : Hand) → judged_at s a ≡ Some h → Held s h
judged-held s a h e = ap (λ (p : Addr). judged_at s p) (sym (ap (λ (x : Hand). x.page) (judged_given s a h e).is)) ∙ e

-- one that was not taken is none that is whole
not_whole : (s : List ℕ) (a : Addr) → judged_at s a ≡ None → hist_ok s a ≡ false
unfolding judged_at hist_ok
not_whole s a e = go (history_at s a) e
  where
    by : (b : Body) (t : Bool) → cond t (Some (hand_of a b)) None ≡ None → t ≡ false
    by b true e' = absurd (taken_no (hand_of a b) (sym e'))
    by b false e' = refl

    go : (o : Option Body) → judged_of s a o ≡ None → hist_of s o ≡ false
    go (Some b) e' = by b (slots_ok s b) e'
    go None e' = refl

-- the page in hand, asked for again
pub known_again : (s : List ℕ) (a : Addr) (h : Hand) → Known s h → (eqb a.0 h.page.0 && not (eqb a.0 0)) ≡ true → judged_at s a ≡ Some h
known_again s a h k e = go (eqb a.0 h.page.0) refl (eqb a.0 0) refl e
  where
    go : (t : Bool) → eqb a.0 h.page.0 ≡ t → (u : Bool) → eqb a.0 0 ≡ u → (t && not u) ≡ true → judged_at s a ≡ Some h
    go true p false q e' =
        let x : a.0 ≡ h.page.0 = eqb-true a.0 h.page.0 p in
        let n = eqb-false a.0 0 q in
        let w : a ≡ h.page = ap addr x in
        ap (λ (y : Addr). judged_at s y) w ∙ ⊎_elim (λ z. absurd (n (x ∙ z))) (λ z. z) k
    go true p true q e' = absurd (let z : ◌≡◌ {A = ℕ} 0 1 = cc in omega arith)
    go false p u q e' = absurd (let z : ◌≡◌ {A = ℕ} 0 1 = cc in omega arith)

-- ---- its old versions

-- the old version at a slot of the page in hand
pub record Old (s : List ℕ) (h : Hand) (i : ℕ) : Type 0 where
  pub rec : Rec
  pub read : old_at s h.page i ≡ Some (old_version h.page i rec)
  pub whole : hist_ok s h.page ≡ true
  pub place : rec.ver_at ≡ h.at + le_at 4 s (h.at + base_len + 4 * i)
  pub slot : h.at + base_len + 4 * i + 4 ≤ length s
  pub ver : rec.ver_at + 12 ≤ length s

not_last : (i n : ℕ) → i < n → i ≡ n → ⊥
not_last i n l e = omega arith

not_index : (k : ℕ) → k ≡ 2 → k ≡ 1 → ⊥
not_index k e f = omega arith

page-read : (s : List ℕ) (a : Addr) (b : Body) (i : ℕ) (r : Rec) → history_at s a ≡ Some b → i < b.elems → rec_at s b i ≡ Some r → old_at s a i ≡ Some (old_version a i r)
unfolding old_at old_in
page-read s a b i r o l e = rw (o, ne_eqb i b.elems (not_last i b.elems l), e)

page-whole : (s : List ℕ) (a : Addr) (b : Body) → history_at s a ≡ Some b → slots_ok s b ≡ true → hist_ok s a ≡ true
unfolding hist_ok
page-whole s a b o w = rw o w

page-old : (s : List ℕ) (a : Addr) (b : Body) (i : ℕ) → history_at s a ≡ Some b → slots_ok s b ≡ true → i < b.elems → Old s (hand_of a b) i
page-old s a b i o w l =
    let g = every_slot s b w i l in
    let k = history-inside s a b o in
    let n = k.inside in
    record {
      rec = g.0;
      read = page-read s a b i g.0 o l g.1;
      whole = page-whole s a b o w;
      place = old-place s b i g.0 n k.kind g.1;
      slot = omega (arith, n.slots, n.records, n.payload, n.arena);
      ver = ver-inside s b i g.0 n (not_index b.kind k.kind) g.1;
    }

pub held-old : (s : List ℕ) (h : Hand) (i : ℕ) → Held s h → i < h.elems → Old s h i
held-old s h i e l =
    let g = judged_given s h.page h e in
    let m : g.body.elems ≡ h.elems = ap (λ (x : Hand). x.elems) g.is in
    rw g.is at (page-old s h.page g.body i g.opened g.whole (omega arith))

-- ---- the page behind it

pub spot_here : (s : List ℕ) (h : Hand) (i : ℕ) (p : Spot) → p.hand ≡ h → p.slot ≡ i → Held s h → i < h.elems → TurnsTo s h i p
spot_here s h i p x y e l = rw (← x, ← y) (record { held = rw x e; slot = rw (x, y) l; same = refl })

behind : (s : List ℕ) (a : Addr) (b : Body) (i : ℕ) → history_at s a ≡ Some b → i ≡ b.elems → old_at s a i ≡ old_link s b.link (history_at s b.link)
unfolding old_at
behind s a b i o e = rw (o, eq-eqb i b.elems e)

first_of : (s : List ℕ) (a : Addr) (b : Body) → history_at s a ≡ Some b → old_at s a 0 ≡ old_in s b a 0
unfolding old_at
first_of s a b o =
    let k = history-inside s a b o in
    let l = open_some s a b k.opened k.kind in
    rw (o, ne_eqb 0 b.elems (λ e. omega arith))

-- no chain goes on from an old version of a page that is not whole, nor from none
chain_dead : (s : List ℕ) (n : ℕ) (a : Addr) (i : ℕ) (t : Ver) → 0 < n → (p : Addr) (q : ℕ) (w : Option Rec) → old_at s a i ≡ old_rec p q w → hist_ok s p ≡ false → chain_from s n a i t ≡ false
chain_dead s n a i t l p q (Some r) e h = chain_broken s n a i t l p q r e h
chain_dead s n a i t l p q None e h = chain_bad s n a i t l e

module _ (s : List ℕ) (h : Hand) (e : Held s h) (i : ℕ) (l : h.elems ≤ i) (m : i ≤ h.elems) where
  g : Page s h.page h
  g = judged_given s h.page h e

  next : old_at s h.page i ≡ old_link s h.link (history_at s h.link)
  next =
      let x : g.body.elems ≡ h.elems = ap (λ (y : Hand). y.elems) g.is in
      let z : g.body.link ≡ h.link = ap (λ (y : Hand). y.link) g.is in
      behind s h.page g.body i g.opened (omega arith) ∙ ap (λ (y : Addr). old_link s y (history_at s y)) z

  pub spot_behind : (d : Hand) (p : Spot) → p.hand ≡ d → p.slot ≡ 0 → judged_at s h.link ≡ Some d → TurnsTo s h i p
  spot_behind d p x y j =
      let k = judged_given s h.link d j in
      let n = history-inside s h.link k.body k.opened in
      let u = open_some s h.link k.body n.opened n.kind in
      let w : k.body.elems ≡ d.elems = ap (λ (z : Hand). z.elems) k.is in
      let a : d.page ≡ h.link = sym (ap (λ (z : Hand). z.page) k.is) in
      let c : 0 < d.elems = omega arith in
      let q : old_at s h.page i ≡ old_at s d.page 0 = next ∙ ap (λ (o : Option Body). old_link s h.link o) k.opened ∙ sym (first_of s h.link k.body k.opened) ∙ ap (λ (z : Addr). old_at s z 0) (sym a) in
      record { held = rw x (judged-held s h.link d j); slot = rw (x, y) c; same = rw (x, y) q }

  pub spot_none : judged_at s h.link ≡ None → (n : ℕ) (t : Ver) → 0 < n → chain_from s n h.page i t ≡ false
  unfolding old_in
  spot_none j n t w = go (history_at s h.link) next
    where
      go : (o : Option Body) → old_at s h.page i ≡ old_link s h.link o → chain_from s n h.page i t ≡ false
      go (Some b) q = chain_dead s n h.page i t w h.link 0 (rec_at s b 0) q (not_whole s h.link j)
      go None q = chain_bad s n h.page i t w q

-- ---- a chain's turn

module _ (s : List ℕ) (h : Hand) (i : ℕ) (r : Option Spot) (g : TurnedTo s h i r) where
  pub turned-is : (p : Spot) → r ≡ Some p → TurnsTo s h i p
  turned-is p e = subst (λ (x : Option Spot). TurnedTo s h i x) e g

  pub turned_bad : r ≡ None → (n : ℕ) (t : Ver) → 0 < n → chain_from s n h.page i t ≡ false
  turned_bad e = subst (λ (x : Option Spot). TurnedTo s h i x) e g

module _ (s : List ℕ) (h : Hand) (i n : ℕ) (t : Ver) (l : 0 < n) (p : Spot) (g : TurnsTo s h i p) (v : Ver) (e : v ≡ ver_in s (p.hand.at + le_at 4 s (p.hand.at + base_len + 4 * p.slot))) where
  old : Old s p.hand p.slot
  old = held-old s p.hand p.slot g.held g.slot

  is : v ≡ ver_in s old.rec.ver_at
  is = e ∙ ap (ver_in s) (sym old.place)

  pub turn_young : newer_than t v ≡ false → chain_from s n h.page i t ≡ false
  turn_young o = chain_young s n h.page i t l p.hand.page p.slot old.rec (g.same ∙ old.read) old.whole (ap (newer_than t) (sym is) ∙ o)

  pub turn_more : newer_than t v ≡ true → chain_from s n h.page i t ≡ chain_from s (n - 1) p.hand.page (p.slot + 1) v
  turn_more o =
      chain_more s n h.page i t l p.hand.page p.slot old.rec (g.same ∙ old.read) old.whole (ap (newer_than t) (sym is) ∙ o)
      ∙ ap (λ (x : Ver). chain_from s (n - 1) p.hand.page (p.slot + 1) x) (sym is)

-- ---- a head's history

entered_in : (s : List ℕ) (a : Addr) (b : Body) (i : ℕ) → history_at s a ≡ Some b → entered s a i ≡ ltb i b.elems
unfolding entered
entered_in s a b i o = rw o

entered-held : (s : List ℕ) (a : Addr) (h : Hand) (i : ℕ) → judged_at s a ≡ Some h → entered s a i ≡ ltb i h.elems
entered-held s a h i j =
    let g = judged_given s a h j in
    entered_in s a g.body i g.opened ∙ ap (λ (x : Hand). ltb i x.elems) g.is

chain_not_whole : (s : List ℕ) (n : ℕ) (a : Addr) (i : ℕ) (t : Ver) → 0 < n → entered s a i ≡ true → hist_ok s a ≡ false → chain_from s n a i t ≡ false
unfolding entered old_in old_at
chain_not_whole s n a i t l e h = go (history_at s a) refl e
  where
    go : (o : Option Body) → history_at s a ≡ o → entered_of i o ≡ true → chain_from s n a i t ≡ false
    go (Some b) o e' = chain_dead s n a i t l a i (rec_at s b i) (rw (o, ne_eqb i b.elems (not_last i b.elems (ltb-true i b.elems e')))) h
    go None o e' = absurd (let z : ◌≡◌ {A = ℕ} 0 1 = cc in omega arith)

pub head_not_whole : (s : List ℕ) (r : Rec) → (r.hist.count ≡ 0 → ⊥) → judged_at s r.hist.page ≡ None → head_ok s r ≡ false
head_not_whole s r n j = go (entered s r.hist.page r.hist.slot) refl
  where
    some : (c : ℕ) → (c ≡ 0 → ⊥) → 0 < c
    some c m = omega arith

    go : (t : Bool) → entered s r.hist.page r.hist.slot ≡ t → head_ok s r ≡ false
    go true e =
        head_chain s r n e
        ∙ chain_not_whole s r.hist.count r.hist.page r.hist.slot (ver_in s r.ver_at) (some r.hist.count n) e (not_whole s r.hist.page j)
    go false e = head_out s r n e

-- a head whose page is in hand: a chain from its slot, where that is one of the page's
module _ (s : List ℕ) (r : Rec) (n : r.hist.count ≡ 0 → ⊥) (h : Hand) (j : judged_at s r.hist.page ≡ Some h) where
  pub head_held : (v : Ver) → v ≡ ver_in s r.ver_at → r.hist.slot < h.elems → chain_from s r.hist.count h.page r.hist.slot v ≡ head_ok s r
  head_held v e l =
      ap (λ (x : Ver). chain_from s r.hist.count h.page r.hist.slot x) e
      ∙ ap (λ (p : Addr). chain_from s r.hist.count p r.hist.slot (ver_in s r.ver_at)) (sym (ap (λ (x : Hand). x.page) (judged_given s r.hist.page h j).is))
      ∙ sym (head_chain s r n (entered-held s r.hist.page h r.hist.slot j ∙ lt-ltb _ _ l))

  pub head_outside : h.elems ≤ r.hist.slot → head_ok s r ≡ false
  head_outside l = head_out s r n (entered-held s r.hist.page h r.hist.slot j ∙ le-ltb _ _ l)
