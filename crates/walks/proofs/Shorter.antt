-- Every step makes a walk shorter, on every arena: the measure of a caller's loop.
-- Assumes nothing.
use Prim.Native.Nat.{ℕ, ◌+◌, ◌*◌, ◌-◌, ◌≤◌, ◌<◌}
use mathlib.Core.Path.{◌≡◌, refl, sym, subst}
use mathlib.Core.Bool.{Bool, true, false, cond}
use mathlib.Core.List.{List}
use native.Mathlib.Omega.{arith}
use borrow.Author.Tests.{ltb-true, ltb-false, eqb-true, eqb-false}
use lib.Dec.{ltb, eqb}
use Rattle.frames.specs.declared.Addr.{Addr}
use Rattle.frames.specs.Layout.{addr}
use Rattle.records.specs.declared.Rec.{Rec}
use Rattle.pages.specs.declared.Place.{Place}
use Rattle.pages.specs.Sound.{history_at}
use Rattle.walks.specs.declared.OldPlace.{OldPlace}
use Rattle.walks.specs.declared.Walk.{Walk}
use Rattle.walks.specs.declared.Item.{Item}
use Rattle.walks.specs.declared.Branch.{Branch}
use Rattle.walks.specs.Walk.{older_on, read_at, kind_of_way, on_of, behind_of, next_rec, next_in, next_link, next_old, enter_at, leads_to, head_older, head_rec, head_step, old_step, step_at}
use Rattle.std.proofs.Common.{Option, Some, None, Result, Ok, Err}
use Rattle.frames.specs.declared.Body.{Body}
use Rattle.frames.specs.declared.Refusal.{Refusal}
use Rattle.walks.specs.declared.Step.{Step}

-- what is left of a walk: its heads, and below them the old versions, which a usize counts
abbrev pub left_of : Walk → ℕ
left_of w = w.heads * 18446744073709551616 + w.older.left

-- an old version leaves one less
module _ (s : List ℕ) (key : Place) (x : Item) (q : OldPlace) where
  no : ◌≡◌ {A = Option (Item × OldPlace)} None (Some (x, q)) → ⊥
  no n = let z : ◌≡◌ {A = ℕ} 0 1 = cc in omega arith

  in_less : (p : OldPlace) (a : Addr) → next_in s key p a ≡ Some (x, q) → q.left ≡ p.left - 1
  unfolding next_in
  in_less p a e = go (read_at s p.page 2 p.slot) e
    where
      go : (r : Option Rec) → next_rec s key p a r ≡ Some (x, q) → q.left ≡ p.left - 1
      go (Some r) e' = let y : p.left - 1 ≡ q.left = grind arith in sym y
      go None e' = absurd (no e')

  next-less : (p : OldPlace) → next_old s key p ≡ Some (x, q) → q.left ≡ p.left - 1
  unfolding next_old
  next-less p e = go (eqb p.slot p.page.elems) e
    where
      link : (o : Option Body) → next_link s key p.left p.link o ≡ Some (x, q) → q.left ≡ p.left - 1
      link (Some b) e' = in_less (older_on b 0 p.left) p.link e'
      link None e' = absurd (no e')

      go : (t : Bool) → cond t (next_link s key p.left p.link (history_at s p.link)) (next_in s key p (addr 0)) ≡ Some (x, q) → q.left ≡ p.left - 1
      go true e' = link (history_at s p.link) e'
      go false e' = in_less p (addr 0) e'

-- the walk behind a step has fewer heads left, or as many and fewer old versions
pub record Moves (w w' : Walk) : Type 0 where
  pub fewer : w'.heads ≤ w.heads
  pub falls : w'.heads ≡ w.heads → w'.older.left < w.older.left

abbrev After : Walk → Result Step Refusal → Type 0
After w (Ok (Step.Found x w')) = Moves w w'
After w (Ok (Step.Leads x w')) = Moves w w'
After w (Ok Step.End) = Unit {0}
After w (Err r) = Unit {0}

module _ (s : List ℕ) (w : Walk) where
  after-old : 0 < w.older.left → After w (old_step w (next_old s w.key w.older))
  unfolding behind_of
  after-old h = go (next_old s w.key w.older) refl
    where
      go : (o : Option (Item × OldPlace)) → next_old s w.key w.older ≡ o → After w (old_step w o)
      go (Some (x, q)) e = let y = next-less s w.key x q w.older e in record { fewer = omega arith; falls = λ l. omega (arith, y, h) }
      go None e = tt

  after_head : w.older.left ≡ 0 → (w.heads ≡ 0 → ⊥) → After w (head_step s w)
  unfolding head_step on_of
  after_head z n = go (read_at s w.page (kind_of_way w.way) w.pos)
    where
      older : (r : Rec) (e : Option OldPlace) → After w (head_older s w r e)
      older r (Some q) = record { fewer = omega arith; falls = λ l. absurd (omega (arith, n, l)) }
      older r None = tt

      either : (r : Rec) (t : Bool) → After w (cond t (leads_to s w r) (head_older s w r (enter_at s r.hist w.older)))
      either r true = record { fewer = omega arith; falls = λ l. absurd (omega (arith, n, l)) }
      either r false = older r (enter_at s r.hist w.older)

      go : (r : Option Rec) → After w (head_rec s w r)
      go (Some r) = either r (eqb w.way 2)
      go None = tt

  after : After w (step_at s w)
  unfolding step_at
  after = go (ltb 0 w.older.left) refl
    where
      ends : w.older.left ≡ 0 → (t : Bool) → eqb w.heads 0 ≡ t → After w (cond t (Ok Step.End) (head_step s w))
      ends z true e = tt
      ends z false e = after_head z (eqb-false w.heads 0 e)

      go : (t : Bool) → ltb 0 w.older.left ≡ t → After w (cond t (old_step w (next_old s w.key w.older)) (cond (eqb w.heads 0) (Ok Step.End) (head_step s w)))
      go true e = after-old (ltb-true 0 w.older.left e)
      go false e = let h = ltb-false 0 w.older.left e in ends (omega arith) (eqb w.heads 0) refl

  pub found_moves : (x : Item) (w' : Walk) → step_at s w ≡ Ok (Step.Found x w') → Moves w w'
  found_moves x w' e = subst (After w) e after

  pub leads_moves : (x : Branch) (w' : Walk) → step_at s w ≡ Ok (Step.Leads x w') → Moves w w'
  leads_moves x w' e = subst (After w) e after

-- THE LAW: the walk behind a step is shorter; what it counts is a usize, as every Walk's is
shorter : (w w' : Walk) → Moves w w' → w'.older.left < 18446744073709551616 → left_of w' < left_of w
shorter w w' m l = go (eqb w'.heads w.heads) refl
  where
    go : (t : Bool) → eqb w'.heads w.heads ≡ t → left_of w' < left_of w
    go true e = let q = eqb-true w'.heads w.heads e in omega (arith, q, m.falls q)
    go false e = omega (arith, m.fewer, eqb-false w'.heads w.heads e, l)

pub found_shorter : (s : List ℕ) (w : Walk) (x : Item) (w' : Walk) → step_at s w ≡ Ok (Step.Found x w') → w'.older.left < 18446744073709551616 → left_of w' < left_of w
found_shorter s w x w' e = shorter w w' (found_moves s w x w' e)

pub leads_shorter : (s : List ℕ) (w : Walk) (x : Branch) (w' : Walk) → step_at s w ≡ Ok (Step.Leads x w') → w'.older.left < 18446744073709551616 → left_of w' < left_of w
leads_shorter s w x w' e = shorter w w' (leads_moves s w x w' e)
