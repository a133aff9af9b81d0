-- The numbers of the check and of the readers of boundaries and hints: 0 or 4.
-- Assumes nothing.
use Prim.Native.Nat.{ℕ, ◌+◌}
use mathlib.Core.Path.{refl}
use mathlib.Core.Logic.{inl, inr}
use mathlib.Core.Bool.{cond}
use mathlib.Core.List.{List}
use lib.Dec.{eqb}
use Rattle.numbers.specs.Number.{le_at}
use Rattle.frames.specs.declared.Addr.{Addr}
use Rattle.frames.specs.declared.Body.{Body}
use Rattle.frames.specs.declared.Refusal.{Refusal}
use Rattle.frames.specs.Refusals.{ZeroOrFour}
use Rattle.frames.proofs.Refusals.{either}
use Rattle.frames.specs.Layout.{open_at}
use Rattle.pages.specs.Sound.{remotes_at, hints_ok}
use Rattle.pages.specs.Meaning.{Said, says, nothing, meaning, check_of}
use Rattle.pages.specs.Boundaries.{bounds_of, bounds_read, bounds_at}
use Rattle.pages.specs.HintsAt.{hints_of, hints_read, history_hints_at, remote_hints_at}
use Rattle.pages.specs.Refused.{checked_number, bounds_number, hints_number}
use Rattle.std.proofs.Common.{Option, Some, None, Result, Ok, Err}
use Rattle.pages.specs.declared.Hints.{Hints}

module _ (s : List ℕ) (a : Addr) where
  pub check_number : ZeroOrFour (checked_number (check_of (meaning s a)))
  check_number = go (meaning s a)
    where
      go : (m : Said) → ZeroOrFour (checked_number (check_of m))
      go (says p) = inl refl
      go nothing = inr refl

  pub bounds-number : ZeroOrFour (bounds_number (bounds_at s a))
  unfolding bounds_at
  bounds-number = go (open_at s a)
    where
      go : (o : Option Body) → ZeroOrFour (bounds_number (bounds_read o))
      go (Some b) = either bounds_number (eqb b.kind 2) (Err Refusal.BadFrame) (Ok (bounds_of b)) (inr refl) (inl refl)
      go None = inr refl

  of_hints : (at n : ℕ) → ZeroOrFour (hints_number (hints_of at n))
  unfolding hints_of
  of_hints at n = either hints_number (eqb n 0) (Ok None) (Ok (Some (record { at = at; count = n }))) (inl refl) (inl refl)

  hints-number : (f : Body → Result (Option Hints) Refusal) → ((b : Body) → ZeroOrFour (hints_number (f b))) → (o : Option Body) → ZeroOrFour (hints_number (hints_read s f o))
  hints-number f h (Some b) =
      let x = either hints_number (eqb b.tail b.end) (Ok None) (f b) (inl refl) (h b) in
      let y = either hints_number (hints_ok s b) (cond (eqb b.tail b.end) (Ok None) (f b)) (Err Refusal.BadFrame) x (inr refl) in
      either hints_number (eqb b.kind 0) (cond (hints_ok s b) (cond (eqb b.tail b.end) (Ok None) (f b)) (Err Refusal.BadFrame)) (Err Refusal.BadFrame) y (inr refl)
  hints-number f h None = inr refl

  pub history-hints-number : ZeroOrFour (hints_number (history_hints_at s a))
  unfolding history_hints_at
  history-hints-number = hints-number (λ b. hints_of (b.end + 4) (le_at 4 s b.end)) (λ b. of_hints (b.end + 4) (le_at 4 s b.end)) (open_at s a)

  pub remote-hints-number : ZeroOrFour (hints_number (remote_hints_at s a))
  unfolding remote_hints_at
  remote-hints-number = hints-number (λ b. hints_of (remotes_at s b + 4) (le_at 4 s (remotes_at s b))) (λ b. of_hints (remotes_at s b + 4) (le_at 4 s (remotes_at s b))) (open_at s a)
