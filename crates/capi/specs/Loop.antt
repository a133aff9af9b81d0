-- A C program's loop over ct_step, or over ct_steps: what it reads of the words, call by call, as the call's contract leaves them.
-- Assumes nothing.
use Rattle.std.specs.Prelude.{ℕ, zero, suc, ◌≡◌, List, [], ◌∷◌, ◌++◌, length, take, drop, get_or}
use Rattle.spans.specs.Span.{part_or}
use Rattle.order.specs.Version.{ver_of}
use Rattle.frames.specs.Layout.{page_id}
use Rattle.walks.specs.Walk.{step_at}
use Rattle.pages.specs.Meaning.{Child}
use Rattle.walks.specs.Listed.{Entry}
use Rattle.walks.specs.Refused.{step_number}
use Rattle.c_words.specs.Words.{written, walk_in, step_words, moved_words}
use Rattle.c_steps.specs.Steps.{room_in, run_number, run_walk, steps_at, steps_words}

-- the number n and the words out say this record
pub record Row (s prefix : List ℕ) (n : ℕ) (out : List ℕ) (e : Entry) : Type 0 where
  pub answers : n ≡ 0
  pub row : get_or out 0 0 ≡ 1
  pub key : prefix ++ part_or s (get_or out 1 0) (get_or out 2 0) ≡ e.key
  pub ver : ver_of (get_or out 3 0) (get_or out 4 0) ≡ e.ver
  pub value : part_or s (get_or out 5 0) (get_or out 6 0) ≡ e.value

-- this key of an index page
pub record Branch (s prefix : List ℕ) (n : ℕ) (out : List ℕ) (e : Child) : Type 0 where
  pub answers : n ≡ 0
  pub leads : get_or out 0 0 ≡ 2
  pub key : prefix ++ part_or s (get_or out 1 0) (get_or out 2 0) ≡ e.key
  pub page : page_id (get_or out 3 0) ≡ e.page

-- or the end
pub record Ended (n : ℕ) (out : List ℕ) : Type 0 where
  pub answers : n ≡ 0
  pub end : get_or out 0 0 ≡ 0

-- the loop reads exactly these, one a call, and then the end; no call is refused. Says is what a call's number and words say
unfoldable pub LoopReads : {A : Type 0} → (ℕ → List ℕ → A → Type 0) → List ℕ → List ℕ → List ℕ → List A → Type 0
LoopReads Says s walk out [] = Ended (step_number (step_at s (walk_in walk))) (written (step_words (step_at s (walk_in walk))) out)
LoopReads Says s walk out (e ∷ es) =
    Says (step_number (step_at s (walk_in walk))) (written (step_words (step_at s (walk_in walk))) out) e
    × LoopReads Says s (written (moved_words (step_at s (walk_in walk))) walk) (written (step_words (step_at s (walk_in walk))) out) es

-- words that say records, nine words each, one behind the other
unfoldable pub Tells : {A : Type 0} → (ℕ → List ℕ → A → Type 0) → List ℕ → List A → Type 0
Tells Says ws [] = Unit {0}
Tells Says ws (e ∷ es) = Says 0 ws e × Tells Says (drop 9 ws) es

-- a call of ct_steps reads the first of these records, as many as there is room for: it is not refused, and says how many, and which
pub record Batch {A : Type 0} (Says : ℕ → List ℕ → A → Type 0) (s walk out : List ℕ) (es : List A) : Type 0 where
  pub answers : run_number (steps_at s walk (length out)) ≡ 0
  pub count : get_or (written (steps_words s walk (length out)) out) 0 0 ≡ length (take (room_in (length out)) es)
  pub rows : Tells Says (drop 1 (written (steps_words s walk (length out)) out)) (take (room_in (length out)) es)

-- so does each of m calls, of the records that those before have left; none are left behind the last record, and then the count is 0
unfoldable pub CallsRead : {A : Type 0} → (ℕ → List ℕ → A → Type 0) → ℕ → List ℕ → List ℕ → List ℕ → List A → Type 0
CallsRead Says zero s walk out es = Unit {0}
CallsRead Says (suc m) s walk out es =
    Batch Says s walk out es
    × CallsRead Says m s (written (run_walk (steps_at s walk (length out))) walk) (written (steps_words s walk (length out)) out) (drop (room_in (length out)) es)

-- records of a leaf, keys of an index page
abbrev pub LoopLists : List ℕ → List ℕ → List ℕ → List ℕ → List Entry → Type 0
LoopLists s prefix walk out es = LoopReads (Row s prefix) s walk out es

abbrev pub LoopLeads : List ℕ → List ℕ → List ℕ → List ℕ → List Child → Type 0
LoopLeads s prefix walk out cs = LoopReads (Branch s prefix) s walk out cs
