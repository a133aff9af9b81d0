-- No step changes a walk's page or its way.
-- Assumes nothing.
use Prim.Native.Nat.{ℕ}
use mathlib.Core.Path.{◌≡◌, refl}
use mathlib.Core.Bool.{Bool, true, false, cond}
use mathlib.Core.List.{List}
use lib.Dec.{ltb, eqb}
use Rattle.records.specs.declared.Rec.{Rec}
use Rattle.walks.specs.declared.Walk.{Walk}
use Rattle.walks.specs.Walk.{walk_of, read_at, kind_of_way, on_of, behind_of, next_old, enter_at, leads_to, head_older, head_rec, head_step, old_step, step_at}
use Rattle.std.proofs.Common.{Option, Some, None, Result, Ok, Err}
use Rattle.frames.specs.declared.Refusal.{Refusal}
use Rattle.walks.specs.declared.Item.{Item}
use Rattle.walks.specs.declared.OldPlace.{OldPlace}
use Rattle.walks.specs.declared.Step.{Step}

abbrev pub On : Walk → Walk → Type 0
On w v = walk_of w.page w.way v.pos v.heads v.key v.older ≡ v

abbrev pub Keeps : Walk → Result Step Refusal → Type 0
Keeps w (Ok (Step.Found x v)) = On w v
Keeps w (Ok (Step.Leads x v)) = On w v
Keeps w (Ok Step.End) = Unit {0}
Keeps w (Err r) = Unit {0}

pub keeps : (s : List ℕ) (w : Walk) → Keeps w (step_at s w)
unfolding step_at head_step on_of behind_of
keeps s w = go (ltb 0 w.older.left) (eqb w.heads 0)
  where
    old : (x : Option (Item × OldPlace)) → Keeps w (old_step w x)
    old (Some (x, p)) = refl
    old None = tt

    older : (r : Rec) (x : Option OldPlace) → Keeps w (head_older s w r x)
    older r (Some p) = refl
    older r None = tt

    way : (r : Rec) (t : Bool) → Keeps w (cond t (leads_to s w r) (head_older s w r (enter_at s r.hist w.older)))
    way r true = refl
    way r false = older r (enter_at s r.hist w.older)

    rec : (x : Option Rec) → Keeps w (head_rec s w x)
    rec (Some r) = way r (eqb w.way 2)
    rec None = tt

    go : (t u : Bool) → Keeps w (cond t (old_step w (next_old s w.key w.older)) (cond u (Ok Step.End) (head_rec s w (read_at s w.page (kind_of_way w.way) w.pos))))
    go true u = old (next_old s w.key w.older)
    go false true = tt
    go false false = rec (read_at s w.page (kind_of_way w.way) w.pos)
