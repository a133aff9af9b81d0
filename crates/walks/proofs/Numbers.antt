-- The numbers of a walk, begun and stepped: 0 or 4.
-- Assumes nothing.
use Prim.Native.Nat.{ℕ}
use mathlib.Core.Path.{refl}
use mathlib.Core.Logic.{inl, inr}
use mathlib.Core.Bool.{cond}
use mathlib.Core.List.{List}
use lib.Dec.{ltb, eqb}
use lib.IntN.{ℤ}
use Rattle.frames.specs.declared.Addr.{Addr}
use Rattle.frames.specs.declared.Body.{Body}
use Rattle.frames.specs.declared.Refusal.{Refusal}
use Rattle.frames.specs.Refusals.{ZeroOrFour}
use Rattle.frames.proofs.Refusals.{either}
use Rattle.frames.specs.Layout.{open_at}
use Rattle.walks.specs.declared.Walk.{Walk}
use Rattle.walks.specs.Walk.{up_range, down_range, begun_of, up_way, kind_of_way, forward_of, forward_at, backward_of, backward_at, read_at, next_old, enter_at, head_older, leads_to, head_rec, head_step, old_step, step_at}
use Rattle.walks.specs.Refused.{begun_number, step_number}
use Rattle.std.proofs.Common.{Option, Some, None, Ok, Err}
use Rattle.records.specs.declared.Rec.{Rec}
use Rattle.walks.specs.declared.Item.{Item}
use Rattle.walks.specs.declared.OldPlace.{OldPlace}
use Rattle.walks.specs.declared.Step.{Step}

begun-number : (b : Body) (way : ℕ) (r : Option (ℕ × ℕ)) → ZeroOrFour (begun_number (begun_of b way r))
begun-number b way (Some (p, n)) = inl refl
begun-number b way None = inr refl

module _ (s : List ℕ) (a : Addr) where
  pub forward_number : (begin end : ℕ) → ZeroOrFour (begun_number (forward_at s a begin end))
  unfolding forward_at
  forward_number begin end = go (open_at s a)
    where
      go : (o : Option Body) → ZeroOrFour (begun_number (forward_of begin end o))
      go (Some b) = either begun_number (eqb b.kind 2) (Err Refusal.BadFrame) (begun_of b (up_way b.kind) (up_range begin end b.elems)) (inr refl) (begun-number b (up_way b.kind) (up_range begin end b.elems))
      go None = inr refl

  pub backward_number : (start end : ℤ) → ZeroOrFour (begun_number (backward_at s a start end))
  unfolding backward_at
  backward_number start end = go (open_at s a)
    where
      go : (o : Option Body) → ZeroOrFour (begun_number (backward_of start end o))
      go (Some b) = either begun_number (eqb b.kind 0) (begun_of b 1 (down_range start end b.elems)) (Err Refusal.BadFrame) (begun-number b 1 (down_range start end b.elems)) (inr refl)
      go None = inr refl

module _ (s : List ℕ) (w : Walk) where
  head_number : (r : Option Rec) → ZeroOrFour (step_number (head_rec s w r))
  head_number (Some r) = either step_number (eqb w.way 2) (leads_to s w r) (head_older s w r (enter_at s r.hist w.older)) (inl refl) (enter (enter_at s r.hist w.older))
    where
      enter : (e : Option OldPlace) → ZeroOrFour (step_number (head_older s w r e))
      enter (Some older) = inl refl
      enter None = inr refl
  head_number None = inr refl

  old-number : (x : Option (Item × OldPlace)) → ZeroOrFour (step_number (old_step w x))
  old-number (Some (x, older)) = inl refl
  old-number None = inr refl

  pub step_number_lem : ZeroOrFour (step_number (step_at s w))
  unfolding step_at head_step
  step_number_lem =
      either step_number (ltb 0 w.older.left) (old_step w (next_old s w.key w.older)) (cond (eqb w.heads 0) (Ok Step.End) (head_step s w)) (old-number (next_old s w.key w.older))
      (either step_number (eqb w.heads 0) (Ok Step.End) (head_step s w) (inl refl) (head_number (read_at s w.page (kind_of_way w.way) w.pos)))
