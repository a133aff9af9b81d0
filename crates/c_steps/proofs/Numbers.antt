-- The number of many steps: 0 or 4, as of one.
-- Assumes nothing.
use Prim.Native.Nat.{ℕ, zero, suc, ◌+◌}
use mathlib.Core.Path.{refl}
use mathlib.Core.Logic.{inl}
use mathlib.Core.List.{List}
use lib.Dec.{eqb}
use Rattle.frames.specs.Refusals.{ZeroOrFour}
use Rattle.frames.proofs.Refusals.{either}
use Rattle.walks.specs.declared.Walk.{Walk}
use Rattle.walks.specs.Walk.{step_at}
use Rattle.walks.specs.Refused.{step_number}
use Rattle.walks.proofs.Numbers.{step_number_lem}
use Rattle.c_words.specs.Words.{walk_in}
use Rattle.c_steps.specs.Steps.{run_by, run_of, room_in, run_number, steps_at}
use Rattle.std.proofs.Common.{Result, Ok, Err}
use Rattle.frames.specs.declared.Refusal.{Refusal}
use Rattle.walks.specs.declared.Step.{Step}

ended-number : (n k : ℕ) (s : List ℕ) (w : Walk) → ZeroOrFour (run_of n k s w).number
unfolding run_of
ended-number zero k s w = inl refl
ended-number (suc n) k s w = go (λ v. ended-number n (k + 1) s v) (step_at s w) (step_number_lem s w)
  where
    go : ((v : Walk) → ZeroOrFour (run_of n (k + 1) s v).number) → (x : Result Step Refusal) → ZeroOrFour (step_number x) → ZeroOrFour (run_by (λ (v : Walk). run_of n (k + 1) s v) k w x).number
    go ih (Ok (Step.Found x v)) h = ih v
    go ih (Ok (Step.Leads x v)) h = ih v
    go ih (Ok Step.End) h = inl refl
    go ih (Err r) h = h

pub steps-number : (s walk : List ℕ) (len : ℕ) → ZeroOrFour (run_number (steps_at s walk len))
unfolding run_number
steps-number s walk len = let x = steps_at s walk len in either (λ (n : ℕ). n) (eqb x.count 0) x.number 0 (ended-number (room_in len) 0 s (walk_in walk)) (inl refl)
