-- The history page in hand: asked for again, the old versions at its slots, the page behind it.
-- Assumes nothing.
use Prim.Native.Nat.{ℕ, zero, suc, ◌+◌, ◌*◌, ◌≤◌, ◌<◌}
use mathlib.Core.Path.{◌≡◌, refl, sym, ap, ◌∙◌}
use mathlib.Core.Bool.{Bool, true, false, cond, not}
use mathlib.Core.List.{List}
use mathlib.Core.Logic.{⊎_elim}
use native.Mathlib.Omega.{arith}
use borrow.Author.Tests.{ne_eqb}
use lib.ListN.{length, get_or}
use lib.Dec.{eqb}
use Rattle.numbers.specs.Number.{le_at}
use Rattle.frames.specs.declared.Addr.{Addr}
use Rattle.frames.specs.declared.Body.{Body}
use Rattle.frames.specs.Layout.{base_len, addr}
use Rattle.frames.proofs.Frames.{open_some}
use Rattle.records.specs.declared.Rec.{Rec}
use Rattle.records.specs.Records.{rec_at}
use Rattle.records.proofs.Inside.{at_slot}
use Rattle.pages.specs.Sound.{history_at, old_rec, old_in, old_link, old_at, old_version}
use Rattle.pages.proofs.Olds.{history-inside, history-is, old-inside}
use Rattle.build_rows.specs.declared.Hand.{Hand}
use Rattle.build_rows.specs.declared.Bytes.{Bytes}
use Rattle.build_rows.specs.declared.Old.{Old}
use Rattle.build_rows.specs.Fields.{behind_of, bytes_at, BytesFit}
use Rattle.build_rows.specs.Judged.{bytes_of, old_of}
use Rattle.build_rows.specs.Hand.{Holds, Known, Opens, Answers, SpotAt}
use Rattle.build_rows.proofs.Fields.{has_of, far_of, ValueHere, rec-here, slot-found}
use Rattle.std.proofs.Common.{Option, Some, None}

-- the page in hand, asked for again
pub hold_again : (w : List ℕ) (a : Addr) (h : Hand) → Known w h → Opens w a → a.0 ≡ h.page.0 → Holds w h × (h.page ≡ a)
hold_again w a h k o e =
    let g = (history-inside w a o.0 o.1).above in
    (⊎_elim (λ z. absurd (omega arith)) (λ z. z) k, ap addr (sym e))

-- another one, opened
pub hold_new : (w : List ℕ) (a : Addr) (b : Body) → history_at w a ≡ Some b → Holds w (record { page = a; at = b.at; elems = b.elems; link = b.link })
hold_new w a b o = record { body = b; opened = o; at = refl; elems = refl; link = refl }

pub opens-some : (w : List ℕ) (a : Addr) → Opens w a → history_at w a ≡ None → ⊥
opens-some w a o e =
    let y : None ≡ Some o.0 = sym e ∙ o.1 in
    let z : ◌≡◌ {A = ℕ} 0 1 = cc in
    omega arith

-- ---- an old version that was read

old_no : (p : Addr) (q : ℕ) (r : Rec) → None ≡ Some (old_version p q r) → ⊥
old_no p q r n = let z : ◌≡◌ {A = ℕ} 0 1 = cc in omega arith

-- it stands in the page a, whose places are b, at slot i
record Stands (w : List ℕ) (a : Addr) (b : Body) (i : ℕ) (p : Addr) (q : ℕ) (r : Rec) : Type 0 where
  page : a ≡ p
  slot : i ≡ q
  read : rec_at w b i ≡ Some r

stands : (w : List ℕ) (a : Addr) (b : Body) (i : ℕ) (p : Addr) (q : ℕ) (r : Rec) → old_in w b a i ≡ Some (old_version p q r) → Stands w a b i p q r
unfolding old_in
stands w a b i p q r e = go (rec_at w b i) refl e
  where
    go : (x : Option Rec) → rec_at w b i ≡ x → old_rec a i x ≡ Some (old_version p q r) → Stands w a b i p q r
    go (Some y) u e' =
        let x1 : a ≡ p = grind arith in
        let x2 : i ≡ q = grind arith in
        let x3 : y ≡ r = grind arith in
        record { page = x1; slot = x2; read = u ∙ ap Some x3 }
    go None u e' = absurd (old_no p q r e')

module _ (w : List ℕ) (a : Addr) (b : Body) (o : history_at w a ≡ Some b) (i : ℕ) (p : Addr) (q : ℕ) (r : Rec) (e : old_at w a i ≡ Some (old_version p q r)) where
  -- in its page
  own : i < b.elems → Stands w a b i p q r
  unfolding old_at
  own l =
      let n : eqb i b.elems ≡ false = ne_eqb i b.elems (λ z. omega arith) in
      stands w a b i p q r (rw (o, n) at e)

  -- behind its page
  record Linked : Type 0 where
    body : Body
    opened : history_at w b.link ≡ Some body
    stood : Stands w b.link body 0 p q r

  linked : b.elems ≤ i → Linked
  unfolding old_at
  linked l = by (eqb i b.elems) (rw o at e)
    where
      link : (x : Option Body) → history_at w b.link ≡ x → old_link w b.link x ≡ Some (old_version p q r) → Linked
      link (Some d) u e' = record { body = d; opened = u; stood = stands w b.link d 0 p q r e' }
      link None u e' = absurd (old_no p q r e')

      by : (t : Bool) → cond t (old_link w b.link (history_at w b.link)) (old_in w b a i) ≡ Some (old_version p q r) → Linked
      by true e' = link (history_at w b.link) refl e'
      by false e' = let m = at_slot w b i r (stands w a b i p q r e').read in absurd (omega arith)

-- where an old version was read, it is read again
pub old_again : (w : List ℕ) (a : Addr) (i : ℕ) (p : Addr) (q : ℕ) (r : Rec) → old_at w a i ≡ Some (old_version p q r) → old_at w p q ≡ Some (old_version p q r)
unfolding old_at old_in
old_again w a i p q r e =
    let g = old-inside w a i p q r e in
    let o = history-is w p g.page (g.history.opened, g.history.kind) in
    let l = g.slot in
    rw (o, ne_eqb q g.page.elems (λ z. omega arith), g.read)

-- ---- where it stands

pub spot_own : (w : List ℕ) (h : Hand) (i : ℕ) → Holds w h → i < h.elems → SpotAt w h.page i (record { hand = h; slot = i })
spot_own w h i g l =
    record {
      holds = g;
      slot = l;
      same = λ p q r e. let z = own w h.page g.body g.opened i p q r e (omega (arith, g.elems)) in (z.page, z.slot);
    }

pub link-opens : (w : List ℕ) (h : Hand) (i : ℕ) → Holds w h → h.elems ≤ i → Answers w h.page i → Opens w h.link
link-opens w h i g l a =
    let z = linked w h.page g.body g.opened i a.0 a.1 a.2 a.3 (omega (arith, g.elems)) in
    (z.body, ap (history_at w) g.link ∙ z.opened)

pub spot_linked : (w : List ℕ) (h : Hand) (i : ℕ) (d : Hand) → Holds w h → h.elems ≤ i → Holds w d → d.page ≡ h.link → SpotAt w h.page i (record { hand = d; slot = 0 })
spot_linked w h i d g l k u =
    let n = history-inside w d.page k.body k.opened in
    let m = open_some w d.page k.body n.opened n.kind in
    record {
      holds = k;
      slot = omega (arith, k.elems);
      same = λ p q r e. let z = (linked w h.page g.body g.opened i p q r e (omega (arith, g.elems))).stood in (u ∙ g.link ∙ z.page, z.slot);
    }

-- ---- what is read there

-- the old version at a slot of the page in hand: its version and its value
pub record OldFound (w : List ℕ) (h : Hand) (i : ℕ) (r : Rec) : Type 0 where
  pub slot : h.at + base_len + 4 * i + 4 ≤ length w
  pub place : h.at + le_at 4 w (h.at + base_len + 4 * i) ≡ r.ver_at
  pub value : ValueHere w (r.ver_at + 12) false r.hist r.val_at r.val_len r.remote

pub old-found : (w : List ℕ) (h : Hand) (i : ℕ) (p : Addr) (q : ℕ) (r : Rec) → Holds w h → i < h.elems → old_at w h.page i ≡ Some (old_version p q r) → OldFound w h i r
old-found w h i p q r g l e =
    let b = g.body in
    let n = history-inside w h.page b g.opened in
    let u = n.inside in
    let z = (own w h.page b g.opened i p q r e (omega (arith, g.elems))).read in
    let k = (slot-found w b i r u z).old n.kind in
    let v = rec-here w b i r u (λ y. omega (arith, n.kind)) z in
    let m : r.rest_at + r.rest_len ≡ r.ver_at + 12 = sym k.1 ∙ ap (λ (x : ℕ). x + 12) k.0 in
    let x : eqb b.kind 0 ≡ false = ne_eqb b.kind 0 (λ y. omega (arith, n.kind)) in
    record {
      slot = omega (arith, g.at, g.elems, u.slots, u.records, u.payload, u.arena);
      place = ap (λ (y : ℕ). y + le_at 4 w (y + base_len + 4 * i)) g.at ∙ k.0;
      value = rw (← x, ← m) v;
    }

-- its flag is 0 or 2
old_flag : (f : ℕ) → f ≤ 3 → has_of f ≡ false → not (eqb f 0) ≡ far_of f
old_flag zero l e = refl
old_flag (suc zero) l e = absurd (let z : ◌≡◌ {A = ℕ} 0 1 = cc in omega arith)
old_flag (suc (suc zero)) l e = refl
old_flag (suc (suc (suc zero))) l e = refl
old_flag (suc (suc (suc (suc f)))) l e = absurd (omega arith)

module _ (w : List ℕ) (h : Hand) (i : ℕ) (r : Rec) (g : OldFound w h i r) (v : ℕ) (e : v ≡ le_at 4 w (h.at + base_len + 4 * i)) where
  old-begins : h.at + v ≡ r.ver_at
  old-begins = ap (λ (x : ℕ). h.at + x) e ∙ g.place

  pub old-room : h.at + v + 12 < length w
  old-room = omega (arith, old-begins, g.value.flag)

  far : far_of (get_or w (r.ver_at + 12) 0) ≡ not (eqb (get_or w (h.at + v + 12) 0) 0)
  far =
      sym (old_flag (get_or w (r.ver_at + 12) 0) g.value.few (g.value.plain refl))
      ∙ ap (λ (x : ℕ). not (eqb (get_or w (x + 12) 0) 0)) (sym old-begins)

  next : behind_of (has_of (get_or w (r.ver_at + 12) 0)) (r.ver_at + 12 + 1) ≡ h.at + v + 13
  unfolding behind_of
  next = rw (g.value.plain refl) (omega (arith, old-begins))

  pub old-fits : BytesFit w (not (eqb (get_or w (h.at + v + 12) 0) 0)) (h.at + v + 13)
  old-fits = rw (← far, ← next) g.value.fits

  pub old-is : (y : Bytes) → y ≡ bytes_at w (not (eqb (get_or w (h.at + v + 12) 0) 0)) (h.at + v + 13) → ◌≡◌ {A = Old} (record { ver_at = h.at + v; bytes = y }) (old_of r)
  old-is y q =
      let x : y ≡ bytes_of r = q ∙ rw (← far, ← next) g.value.bytes in
      rw (old-begins, x)
