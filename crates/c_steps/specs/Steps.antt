-- Many records a call: what at most n steps of a walk come to, and the words that ct_steps leaves.
-- Assumes nothing.
use Rattle.std.specs.Prelude.{ℕ, zero, suc, ◌+◌, ◌-◌, ◌/◌, cond, List, [], ◌∷◌, ◌++◌, eqb, Result, Ok, Err}
use Rattle.frames.specs.Refusals.{number_of}
use Rattle.walks.specs.declared.Walk.{Walk}
use Rattle.walks.specs.Walk.{step_at}
use Rattle.c_steps.specs.declared.Run.{Run}
use Rattle.c_words.specs.Words.{walk_in, walk_words, item_words, branch_words}
use Rattle.frames.specs.declared.Refusal.{Refusal}
use Rattle.walks.specs.declared.Step.{Step}

abbrev pub run : ℕ → ℕ → Walk → Run
run k number w = record { count = k; number = number; walk = w }

-- a step is taken where it has a record; the end and a refusal leave the walk where it is
abbrev pub run_by : (Walk → Run) → ℕ → Walk → Result Step Refusal → Run
run_by more k w (Ok (Step.Found x v)) = more v
run_by more k w (Ok (Step.Leads x v)) = more v
run_by more k w (Ok Step.End) = run k 0 w
run_by more k w (Err r) = run k (number_of r) w

-- at most n steps behind k records: how many records in all, the number of the refusal that ended them, the walk behind the last record
unfoldable pub run_of : ℕ → ℕ → List ℕ → Walk → Run
run_of zero k s w = run k 0 w
run_of (suc n) k s w = run_by (λ (v : Walk). run_of n (k + 1) s v) k w (step_at s w)

abbrev pub words_by : (Walk → List ℕ) → Result Step Refusal → List ℕ
words_by more (Ok (Step.Found x v)) = item_words x ++ more v
words_by more (Ok (Step.Leads x v)) = branch_words x ++ more v
words_by more (Ok Step.End) = []
words_by more (Err r) = []

-- their records' words, "one behind the other"
unfoldable pub run_words : ℕ → List ℕ → Walk → List ℕ
run_words zero s w = []
run_words (suc n) s w = words_by (λ (v : Walk). run_words n s v) (step_at s w)

-- "at most (out_len - 1) / 9 of them"
unfoldable pub room_in : ℕ → ℕ
room_in len = (len - 1) / 9

-- a refusal behind a record "is the answer of the next call"
unfoldable pub run_number : Run → ℕ
run_number x = cond (eqb x.count 0) x.number 0

-- the walk moves on behind the last record; without one it stays
unfoldable pub run_walk : Run → List ℕ
run_walk x = cond (eqb x.count 0) [] (walk_words x.walk)

-- how many records, in front of their words; a refused first step has no words
unfoldable pub run_says : Run → List ℕ → List ℕ
run_says x ws = cond (eqb x.count 0) (cond (eqb x.number 0) (0 ∷ []) []) (x.count ∷ ws)

-- what ct_steps does with a caller's words: the walk in them, and room for so many records as `len` words have
abbrev pub steps_at : List ℕ → List ℕ → ℕ → Run
steps_at s walk len = run_of (room_in len) 0 s (walk_in walk)

abbrev pub steps_words : List ℕ → List ℕ → ℕ → List ℕ
steps_words s walk len = run_says (steps_at s walk len) (run_words (room_in len) s (walk_in walk))
