-- A C program's loop over ct_steps lists what the walk lists: a run of steps tells the first records, and the next call the next ones, in any
-- lent slices of at least eighteen words and one.
-- Assumes nothing.
use Prim.Native.Nat.{ℕ, zero, suc, ◌+◌, ◌*◌, ◌≤◌}
use mathlib.Core.Path.{◌≡◌, refl, sym, ap, subst, ◌∙◌}
use mathlib.Core.Bool.{Bool, true, false, cond}
use mathlib.Core.List.{List, [], ◌∷◌, ◌++◌, append_assoc}
use native.Mathlib.Omega.{arith}
use borrow.Author.Tests.{eq-eqb, eqb-true}
use lib.Dec.{eqb}
use lib.ListN.{length, take, drop, get_or, length-append}
use lib.Seq.{drop-append_seam}
use Rattle.pages.specs.Meaning.{Child}
use Rattle.walks.specs.declared.Walk.{Walk}
use Rattle.walks.specs.Walk.{step_at}
use Rattle.walks.specs.Listed.{Entry, entry_of, WalksTo, Lists, lead_of, LeadsTo, Leads}
use Rattle.walks.specs.Refused.{begun_number}
use Rattle.c_steps.specs.declared.Run.{Run}
use Rattle.c_words.specs.Words.{written, walk_in, walk_words, item_words, branch_words}
use Rattle.c_answers.specs.Answers.{begun_words}
use Rattle.c_steps.specs.Steps.{run, run_by, run_of, words_by, run_words, room_in, run_number, run_walk, run_says, steps_at, steps_words}
use Rattle.capi.specs.Loop.{Row, Branch, Tells, Batch, CallsRead}
use Rattle.c_words.proofs.Laws.{written_none, written-length, written-whole, walk_kept}
use Rattle.capi.proofs.Looping.{begun_in}
use Rattle.c_steps.proofs.Running.{none, stay, room_within}
use Rattle.std.proofs.Common.{Result, Ok}
use Rattle.frames.specs.declared.Refusal.{Refusal}
use Rattle.walks.specs.declared.Step.{Step}

-- T w es: the walk w lists es; Says: words say a record
module _ {A : Type 0} (Says : ℕ → List ℕ → A → Type 0) (T : Walk → List A → Type 0) (s : List ℕ) where
  -- the first of the records, by one step
  pub record Next (w : Walk) (e : A) (es : List A) : Type 0 where
    pub walk : Walk
    pub words : List ℕ
    pub nine : length words ≡ 9
    pub runs : (n k : ℕ) → run_of (suc n) k s w ≡ run_of n (k + 1) s walk
    pub tells : (n : ℕ) → run_words (suc n) s w ≡ words ++ run_words n s walk
    pub says : (rest : List ℕ) → Says 0 (words ++ rest) e
    pub lists : T walk es

  -- at most n steps tell the first n of the records, none is refused, and the walk behind them lists the others
  pub record Ran (n k : ℕ) (w : Walk) (es : List A) : Type 0 where
    pub count : (run_of n k s w).count ≡ k + length (take n es)
    pub number : (run_of n k s w).number ≡ 0
    pub long : length (run_words n s w) ≡ 9 * length (take n es)
    pub rows : (rest : List ℕ) → Tells Says (run_words n s w ++ rest) (take n es)
    pub behind : T (run_of n k s w).walk (drop n es)

  module _ (ends : (w : Walk) → T w [] → step_at s w ≡ Ok Step.End) (next : (w : Walk) (e : A) (es : List A) → T w (e ∷ es) → Next w e es) where
    ran-end : (n k : ℕ) (w : Walk) → T w [] → step_at s w ≡ Ok Step.End → Ran (suc n) k w []
    unfolding run_of run_words Tells
    ran-end n k w h e =
        let r : run_of (suc n) k s w ≡ run k 0 w = ap (λ (z : Result Step Refusal). run_by (λ (v : Walk). run_of n (k + 1) s v) k w z) e in
        let ws : run_words (suc n) s w ≡ [] = ap (λ (z : Result Step Refusal). words_by (λ (v : Walk). run_words n s v) z) e in
        record {
          count = ap (λ (z : Run). z.count) r ∙ omega arith;
          number = ap (λ (z : Run). z.number) r;
          long = ap length ws;
          rows = λ rest. tt;
          behind = subst (λ (z : Run). T z.walk []) (sym r) h;
        }

    pub ran : (n k : ℕ) (w : Walk) (es : List A) → T w es → Ran n k w es
    unfolding run_of run_words Tells
    ran zero k w es h = record { count = omega arith; number = refl; long = refl; rows = λ rest. tt; behind = h }
    ran (suc n) k w [] h = ran-end n k w h (ends w h)
    ran (suc n) k w (e ∷ es) h =
        let x = next w e es h in
        let r = ran n (k + 1) x.walk es x.lists in
        record {
          count = ap (λ (z : Run). z.count) (x.runs n k) ∙ r.count ∙ omega arith;
          number = ap (λ (z : Run). z.number) (x.runs n k) ∙ r.number;
          long = ap length (x.tells n) ∙ length-append x.words (run_words n s x.walk) ∙ omega (arith, x.nine, r.long);
          rows = λ (rest : List ℕ).
              let q : run_words (suc n) s w ++ rest ≡ x.words ++ (run_words n s x.walk ++ rest) =
              ap (λ (z : List ℕ). z ++ rest) (x.tells n) ∙ append_assoc x.words (run_words n s x.walk) rest in
              let d : drop 9 (run_words (suc n) s w ++ rest) ≡ run_words n s x.walk ++ rest =
              ap (λ (z : List ℕ). drop 9 z) q ∙ ap (λ (j : ℕ). drop j (x.words ++ (run_words n s x.walk ++ rest))) (sym x.nine)
              ∙ drop-append_seam x.words (run_words n s x.walk ++ rest) in
              (subst (λ (z : List ℕ). Says 0 z e) (sym q) (x.says (run_words n s x.walk ++ rest)), subst (λ (z : List ℕ). Tells Says z (take n es)) (sym d) (r.rows rest));
          behind = subst (λ (z : Run). T z.walk (drop n es)) (sym (x.runs n k)) r.behind;
        }

-- ---- rows of a leaf, keys of an index page

next_row : (s prefix : List ℕ) (w : Walk) (e : Entry) (es : List Entry) → WalksTo s prefix w (e ∷ es) → Next (Row s prefix) (WalksTo s prefix) s w e es
unfolding WalksTo entry_of run_of run_words
next_row s prefix w e es h =
    record {
      walk = h.1;
      words = item_words h.0;
      nine = refl;
      runs = λ (n k : ℕ). ap (λ (z : Result Step Refusal). run_by (λ (v : Walk). run_of n (k + 1) s v) k w z) h.2;
      tells = λ (n : ℕ). ap (λ (z : Result Step Refusal). words_by (λ (v : Walk). run_words n s v) z) h.2;
      says = λ (rest : List ℕ). record {
        answers = refl;
        row = refl;
        key = ap (λ (t : Entry). t.key) h.3;
        ver = ap (λ (t : Entry). t.ver) h.3;
        value = ap (λ (t : Entry). t.value) h.3;
      };
      lists = h.4;
    }

pub rows_told : (s prefix : List ℕ) (n : ℕ) (w : Walk) (es : List Entry) → WalksTo s prefix w es → Ran (Row s prefix) (WalksTo s prefix) s n 0 w es
unfolding WalksTo
rows_told s prefix n w es h = ran (Row s prefix) (WalksTo s prefix) s (λ (v : Walk) (e : WalksTo s prefix v []). e) (next_row s prefix) n 0 w es h

next_branch : (s prefix : List ℕ) (w : Walk) (e : Child) (es : List Child) → LeadsTo s prefix w (e ∷ es) → Next (Branch s prefix) (LeadsTo s prefix) s w e es
unfolding LeadsTo lead_of run_of run_words
next_branch s prefix w e es h =
    record {
      walk = h.1;
      words = branch_words h.0;
      nine = refl;
      runs = λ (n k : ℕ). ap (λ (z : Result Step Refusal). run_by (λ (v : Walk). run_of n (k + 1) s v) k w z) h.2;
      tells = λ (n : ℕ). ap (λ (z : Result Step Refusal). words_by (λ (v : Walk). run_words n s v) z) h.2;
      says = λ (rest : List ℕ). record {
        answers = refl;
        leads = refl;
        key = ap (λ (t : Child). t.key) h.3;
        page = ap (λ (t : Child). t.page) h.3;
      };
      lists = h.4;
    }

pub branches_told : (s prefix : List ℕ) (n : ℕ) (w : Walk) (cs : List Child) → LeadsTo s prefix w cs → Ran (Branch s prefix) (LeadsTo s prefix) s n 0 w cs
unfolding LeadsTo
branches_told s prefix n w cs h = ran (Branch s prefix) (LeadsTo s prefix) s (λ (v : Walk) (e : LeadsTo s prefix v []). e) (next_branch s prefix) n 0 w cs h

-- ---- the calls

take_most : {A : Type 0} (n : ℕ) (l : List A) → length (take n l) ≤ n
take_most zero l = omega arith
take_most (suc n) [] = omega arith
take_most (suc n) (x ∷ l) = omega (arith, take_most n l)

same : (t : Bool) → ◌≡◌ {A = ℕ} (cond t 0 0) 0
same true = refl
same false = refl

-- a run that is not refused says its count, then its words
says_all : (x : Run) (ws : List ℕ) → x.number ≡ 0 → (x.count ≡ 0 → ws ≡ []) → run_says x ws ≡ x.count ∷ ws
unfolding run_says
says_all x ws hn h = by (eqb x.count 0) refl
  where
    by : (t : Bool) → eqb x.count 0 ≡ t → cond t (cond (eqb x.number 0) (0 ∷ []) []) (x.count ∷ ws) ≡ x.count ∷ ws
    by true e =
        let c : x.count ≡ 0 = eqb-true x.count 0 e in
        ap (λ (t : Bool). cond t (0 ∷ []) []) (eq-eqb x.number 0 hn) ∙ sym (ap (λ (k : ℕ). k ∷ ws) c ∙ ap (λ (z : List ℕ). 0 ∷ z) (h c))
    by false e = refl

-- the walk in the words afterwards is the walk behind the run
moved_on : (x : Run) (walk : List ℕ) → 18 ≤ length walk → (x.count ≡ 0 → x.walk ≡ walk_in walk) → walk_in (written (run_walk x) walk) ≡ x.walk
unfolding run_walk
moved_on x walk hw h = by (eqb x.count 0) refl
  where
    by : (t : Bool) → eqb x.count 0 ≡ t → walk_in (written (cond t [] (walk_words x.walk)) walk) ≡ x.walk
    by true e = ap walk_in (written_none walk) ∙ sym (h (eqb-true x.count 0 e))
    by false e = walk_kept x.walk walk hw

module _ {A : Type 0} (Says : ℕ → List ℕ → A → Type 0) (T : Walk → List A → Type 0) (s : List ℕ) (told : (n : ℕ) (w : Walk) (es : List A) → T w es → Ran Says T s n 0 w es) where
  batch : (walk out : List ℕ) (es : List A) → 1 ≤ length out → T (walk_in walk) es → Batch Says s walk out es
  unfolding run_number
  batch walk out es ho h =
      let n = room_in (length out) in
      let x = steps_at s walk (length out) in
      let ws = run_words n s (walk_in walk) in
      let r = told n (walk_in walk) es h in
      let all : steps_words s walk (length out) ≡ x.count ∷ ws = says_all x ws r.number (none n s (walk_in walk)) in
      let fits : length (x.count ∷ ws) ≤ length out = omega (arith, room_within (length out) ho, take_most n es, r.long) in
      let o : written (steps_words s walk (length out)) out ≡ (x.count ∷ ws) ++ drop (length (x.count ∷ ws)) out =
      ap (λ (z : List ℕ). written z out) all ∙ written-whole (x.count ∷ ws) out fits in
      record {
        answers = ap (λ (k : ℕ). cond (eqb x.count 0) k 0) r.number ∙ same (eqb x.count 0);
        count = ap (λ (z : List ℕ). get_or z 0 0) o ∙ r.count ∙ omega arith;
        rows = subst (λ (z : List ℕ). Tells Says (drop 1 z) (take n es)) (sym o) (r.rows (drop (length (x.count ∷ ws)) out));
      }

  pub calls_read : (m : ℕ) (walk out : List ℕ) (es : List A) → 18 ≤ length walk → 1 ≤ length out → T (walk_in walk) es → CallsRead Says m s walk out es
  unfolding CallsRead
  calls_read zero walk out es hw ho h = tt
  calls_read (suc m) walk out es hw ho h =
      let n = room_in (length out) in
      let x = steps_at s walk (length out) in (
        batch walk out es ho h,
        calls_read m (written (run_walk x) walk) (written (steps_words s walk (length out)) out) (drop n es)
            (omega (arith, hw, written-length (run_walk x) walk)) (omega (arith, ho, written-length (steps_words s walk (length out)) out))
            (subst (λ (v : Walk). T v (drop n es)) (sym (moved_on x walk hw (stay n s (walk_in walk)))) (told n (walk_in walk) es h).behind),
      )

-- what ct_forward and ct_backward leave, read by ct_steps: with law_calls demand 3 holds of this C loop, too
module _ (s prefix : List ℕ) (b : Result Walk Refusal) (walk out : List ℕ) (hw : 18 ≤ length walk) (ho : 1 ≤ length out) where
  pub batches_list : (es : List Entry) → Lists s prefix b es → (begun_number b ≡ 0) × ((m : ℕ) → CallsRead (Row s prefix) m s (written (begun_words b) walk) out es)
  batches_list es h = (
    ap begun_number h.begun,
    λ (m : ℕ). calls_read (Row s prefix) (WalksTo s prefix) s (rows_told s prefix) m (written (begun_words b) walk) out es
        (omega (arith, hw, written-length (begun_words b) walk)) ho (subst (λ (v : Walk). WalksTo s prefix v es) (sym (begun_in b walk hw h.walk h.begun)) h.lists),
  )

  pub batches_lead : (cs : List Child) → Leads s prefix b cs → (begun_number b ≡ 0) × ((m : ℕ) → CallsRead (Branch s prefix) m s (written (begun_words b) walk) out cs)
  batches_lead cs h = (
    ap begun_number h.begun,
    λ (m : ℕ). calls_read (Branch s prefix) (LeadsTo s prefix) s (branches_told s prefix) m (written (begun_words b) walk) out cs
        (omega (arith, hw, written-length (begun_words b) walk)) ho (subst (λ (v : Walk). LeadsTo s prefix v cs) (sym (begun_in b walk hw h.walk h.begun)) h.leads),
  )
