-- What a history page that was opened and an old version that was read tell of their places.
-- Assumes nothing.
use Prim.Native.Nat.{ℕ, ◌+◌, ◌≤◌, ◌<◌}
use mathlib.Core.Path.{◌≡◌, refl}
use mathlib.Core.Bool.{Bool, true, false, cond}
use mathlib.Core.List.{List}
use native.Mathlib.Omega.{arith}
use borrow.Author.Tests.{eqb-true, eq-eqb}
use lib.ListN.{length}
use lib.Dec.{eqb}
use Rattle.spans.proofs.Tests.{ask}
use Rattle.frames.specs.declared.Addr.{Addr}
use Rattle.frames.specs.declared.Body.{Body}
use Rattle.frames.specs.Layout.{open_at, Inside}
use Rattle.frames.proofs.Frames.{open_inside}
use Rattle.records.specs.declared.Rec.{Rec}
use Rattle.records.specs.Records.{rec_at, RecInside}
use Rattle.records.proofs.Inside.{at-inside, at_slot, ver-inside}
use Rattle.pages.specs.Sound.{history_of, history_at, old_rec, old_in, old_link, old_of, old_at, old_version}
use Rattle.std.proofs.Common.{Option, Some, None}

-- a history page was opened
pub record History (s : List ℕ) (a : Addr) (b : Body) : Type 0 where
  pub opened : open_at s a ≡ Some b
  pub kind : b.kind ≡ 2
  pub inside : Inside s b
  pub above : 8 ≤ a.0

pub history-inside : (s : List ℕ) (a : Addr) (b : Body) → history_at s a ≡ Some b → History s a b
unfolding history_at
history-inside s a b e = go (open_at s a) refl e
  where
    no : None ≡ Some b → ⊥
    no n = let z : ◌≡◌ {A = ℕ} 0 1 = cc in omega arith

    go : (o : Option Body) → open_at s a ≡ o → history_of o ≡ Some b → History s a b
    go (Some d) q e' =
        let a1 = ask (eqb d.kind 2) (Some d) None (Some b) no e' in
        let x : d ≡ b = cc in
        let y = open_inside s a d q in
        rw (← x) (record { opened = q; kind = eqb-true _ _ a1.0; inside = y.0; above = y.1 })
    go None q e' = absurd (no e')

pub history-is : (s : List ℕ) (a : Addr) (b : Body) → (open_at s a ≡ Some b) × (b.kind ≡ 2) → history_at s a ≡ Some b
unfolding history_at
history-is s a b g = rw (g.0, eq-eqb b.kind 2 g.1)

-- an old version stands in a history page
pub record OldInside (s : List ℕ) (p : Addr) (q : ℕ) (r : Rec) : Type 0 where
  pub page : Body
  pub history : History s p page
  pub rec : RecInside s page r
  pub slot : q < page.elems
  pub ver : r.ver_at + 12 ≤ length s
  pub read : rec_at s page q ≡ Some r

old_no : (p : Addr) (q : ℕ) (r : Rec) → None ≡ Some (old_version p q r) → ⊥
old_no p q r n = let z : ◌≡◌ {A = ℕ} 0 1 = cc in omega arith

not_index : (k : ℕ) → k ≡ 2 → k ≡ 1 → ⊥
not_index k e f = omega arith

in_inside : (s : List ℕ) (b : Body) (a : Addr) (i : ℕ) (p : Addr) (q : ℕ) (r : Rec) → History s a b → old_in s b a i ≡ Some (old_version p q r) → OldInside s p q r
unfolding old_in
in_inside s b a i p q r h e = go (rec_at s b i) refl e
  where
    go : (w : Option Rec) → rec_at s b i ≡ w → old_rec a i w ≡ Some (old_version p q r) → OldInside s p q r
    go (Some x) u e' =
        let y : a ≡ p = grind arith in
        let z : i ≡ q = grind arith in
        let t : x ≡ r = grind arith in
        rw (← y, ← z, ← t)
        (record {
          page = b;
          history = h;
          rec = (at-inside s b i x h.inside u).0;
          slot = at_slot s b i x u;
          ver = ver-inside s b i x h.inside (not_index b.kind h.kind) u;
          read = u;
        })
    go None u e' = absurd (old_no p q r e')

pub old-inside : (s : List ℕ) (a : Addr) (i : ℕ) (p : Addr) (q : ℕ) (r : Rec) → old_at s a i ≡ Some (old_version p q r) → OldInside s p q r
unfolding old_at
old-inside s a i p q r e = go (history_at s a) refl e
  where
    link : (l : Addr) (o : Option Body) → history_at s l ≡ o → old_link s l o ≡ Some (old_version p q r) → OldInside s p q r
    link l (Some d) u e' = in_inside s d l 0 p q r (history-inside s l d u) e'
    link l None u e' = absurd (old_no p q r e')

    go : (o : Option Body) → history_at s a ≡ o → old_of s a i o ≡ Some (old_version p q r) → OldInside s p q r
    go (Some b) u e' = by (eqb i b.elems) e'
      where
        by : (t : Bool) → cond t (old_link s b.link (history_at s b.link)) (old_in s b a i) ≡ Some (old_version p q r) → OldInside s p q r
        by true w = link b.link (history_at s b.link) refl w
        by false w = in_inside s b a i p q r (history-inside s a b u) w
    go None u e' = absurd (old_no p q r e')
