-- The loop of ct_steps, turn by turn: where it stands, what it knows of a history page, and what each turn does.
-- Assumes nothing.
use Rattle.std.specs.Prelude.{ℕ, ◌+◌, ◌-◌, ◌*◌, ◌≤◌, ◌<◌, ◌≡◌, cond, List, [], length, ltb, Option, Some, None, Ok}
use Rattle.spans.specs.Span.{put}
use Rattle.frames.specs.Layout.{addr}
use Rattle.values.specs.declared.HistRef.{HistRef}
use Rattle.records.specs.declared.Rec.{Rec}
use Rattle.pages.specs.declared.Place.{Place}
use Rattle.pages.specs.Sound.{history_at}
use Rattle.walks.specs.declared.OldPlace.{OldPlace}
use Rattle.walks.specs.declared.Walk.{Walk}
use Rattle.walks.specs.Walk.{older_of, walk_of, on_of, item_of, rest_of, enter_of, enter_at, step_at}
use Rattle.c_steps.specs.declared.Plain.{Plain}
use Rattle.c_steps.specs.declared.Turn.{Turn}
use Rattle.c_steps.specs.Steps.{run, run_of, run_words}
use Rattle.walks.specs.declared.Step.{Step}

-- where the loop stands behind k records: the steps left come to what all of them come to, and write the rest of the words
pub record Filling (s : List ℕ) (most first : ℕ) (w₀ : Walk) (o₀ : List ℕ) (w : Walk) (at k : ℕ) (o : List ℕ) : Type 0 where
  pub few : k ≤ most
  pub place : at ≡ first + 9 * k
  pub ends : (j : ℕ) → run_of (most - k) (j + k) s w ≡ run_of most j s w₀
  pub writes : put o at (run_words (most - k) s w) ≡ put o₀ first (run_words most s w₀)
  pub long : length o ≡ length o₀

-- no record at the walk: its end, or a refusal
pub record Stopping (s : List ℕ) (most : ℕ) (w : Walk) (o : List ℕ) (number : ℕ) (o' : List ℕ) : Type 0 where
  pub ends : (j : ℕ) → run_of most j s w ≡ run j number w
  pub writes : run_words most s w ≡ []
  pub same : o' ≡ o

-- the history page a is the one in which the past p stands, judged: entering it at any slot leads there. 0 is none
pub record KnownOlder (s : List ℕ) (a : ℕ) (p : OldPlace) : Type 0 where
  pub enters : (a ≡ 0 → ⊥) → (slot count : ℕ) → enter_of slot count (history_at s (addr a)) ≡ cond (ltb slot p.page.elems) (Some (older_of p.page p.link slot count)) None

-- the walk behind n old versions of its history page
abbrev pub aged : Walk → ℕ → Walk
aged w n = walk_of w.page w.way w.pos w.heads w.key (older_of w.older.page w.older.link (w.older.slot + n) (w.older.left - n))

abbrev pub plain_of : ℕ → ℕ → Place → Option Rec → Plain
plain_of n p key r = record { count = n; pos = p; key = key; next = r }

-- the walk behind n heads without history, the last one's key, and where the next head stands
abbrev pub on_to : Walk → ℕ → ℕ → Place → Walk
on_to w n p key = walk_of w.page w.way p (w.heads - n) key w.older

abbrev pub headed_by : Walk → Plain → Walk
headed_by w x = on_to w x.count x.pos x.key

-- a walk with another's page and way
abbrev pub same_page : Walk → Walk → Walk
same_page w v = walk_of w.page w.way v.pos v.heads v.key v.older

abbrev pub Reaches : List ℕ → HistRef → OldPlace → Option (OldPlace × ℕ) → Type 0
Reaches s h was (Some (p, a)) = (enter_at s h was ≡ Some p) × KnownOlder s a p
Reaches s h was None = Unit {0}

-- the head at the walk, read: it is the walk's step, once its history is entered
pub record Ahead (s : List ℕ) (w : Walk) (r : Rec) : Type 0 where
  pub some : 0 < w.heads
  pub below : w.pos < length s
  pub ver : r.ver_at + 12 ≤ length s
  pub steps : (p : OldPlace) → enter_at s r.hist w.older ≡ Some p → step_at s w ≡ Ok (Step.Found (item_of s (rest_of r) r r.hist.page) (on_of w (rest_of r) p))

-- what the heads without history come to, and the head behind them that has one
pub record Plains (s : List ℕ) (room first : ℕ) (w : Walk) (o : List ℕ) (x : Plain) (o' : List ℕ) : Type 0 where
  pub few : x.count ≤ w.heads
  pub fresh : x.count ≡ 0 → o' ≡ o
  pub fills : Filling s room first w o (headed_by w x) (first + 9 * x.count) x.count o'
  pub next : (r : Rec) → x.next ≡ Some r → (x.count < room) × Ahead s (headed_by w x) r

abbrev pub Heads : List ℕ → Walk → Option (Rec × Walk × ℕ) → Type 0
Heads s w (Some (r, v, a)) = (step_at s w ≡ Ok (Step.Found (item_of s v.key r r.hist.page) v)) × (KnownOlder s a v.older × (r.ver_at + 12 ≤ length s))
Heads s w None = Unit {0}

-- a turn: some records on, or the end
abbrev pub Turns : List ℕ → ℕ → ℕ → Walk → List ℕ → Turn → List ℕ → Type 0
Turns s room at w o (Turn.On n v a) o' = Filling s room at w o v (at + 9 * n) n o' × (KnownOlder s a v.older × (0 < n))
Turns s room at w o (Turn.Stop number) o' = Stopping s room w o number o'

-- what the short ways do: such a turn, or nothing, which says nothing of the walk
abbrev pub Quicks : List ℕ → ℕ → ℕ → Walk → List ℕ → Turn → List ℕ → Type 0
Quicks s room at w o (Turn.On n v a) o' = Turns s room at w o (Turn.On n v a) o'
Quicks s room at w o (Turn.Stop number) o' = o' ≡ o
