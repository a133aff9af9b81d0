-- One step of the walk in a caller's words: what it answers and leaves, and what its short ways do.
-- Assumes nothing.
use Rattle.std.specs.Prelude.{ℕ, ◌≡◌, Bool, true, false, List, Some}
use Rattle.values.specs.declared.HistRef.{HistRef}
use Rattle.walks.specs.declared.OldPlace.{OldPlace}
use Rattle.walks.specs.Walk.{behind_of, enter_at, step_at}
use Rattle.walks.specs.Refused.{step_number}
use Rattle.c_words.specs.Words.{written, walk_in, walk_words, step_words, moved_words}

-- number, walk and words of the step
pub record Stepped (s walk out : List ℕ) (r : ℕ) (walk' out' : List ℕ) : Type 0 where
  pub number : r ≡ step_number (step_at s (walk_in walk))
  pub moved : walk' ≡ written (moved_words (step_at s (walk_in walk))) walk
  pub told : out' ≡ written (step_words (step_at s (walk_in walk))) out

-- a short way takes the step, or leaves every word as it is
pub record Takes (s walk out : List ℕ) (taken : Bool) (walk' out' : List ℕ) : Type 0 where
  pub took : taken ≡ true → Stepped s walk out 0 walk' out'
  pub left : taken ≡ false → (walk' ≡ walk) × (out' ≡ out)

-- a head's history, entered: the words are those of the walk with it
pub record Within (s : List ℕ) (h : HistRef) (walk walk' : List ℕ) : Type 0 where
  pub older : OldPlace
  pub enters : enter_at s h (walk_in walk).older ≡ Some older
  pub stored : walk' ≡ written (walk_words (behind_of (walk_in walk) older)) walk

pub record Enters (s : List ℕ) (h : HistRef) (walk : List ℕ) (taken : Bool) (walk' : List ℕ) : Type 0 where
  pub took : taken ≡ true → Within s h walk walk'
  pub left : taken ≡ false → walk' ≡ walk
