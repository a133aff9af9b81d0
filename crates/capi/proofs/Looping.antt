-- A C program's loop over ct_step lists what the walk lists, in any lent slices of at least eighteen and nine words.
-- Assumes nothing.
use Prim.Native.Nat.{ℕ, ◌≤◌}
use mathlib.Core.Path.{◌≡◌, refl, ap, ◌∙◌}
use mathlib.Core.List.{List, [], ◌∷◌, ◌++◌}
use native.Mathlib.Omega.{arith}
use lib.ListN.{length, drop, get_or}
use Rattle.spans.specs.Span.{part_or}
use Rattle.order.specs.Version.{ver_of}
use Rattle.frames.specs.Layout.{page_id}
use Rattle.pages.specs.Meaning.{Child}
use Rattle.walks.specs.declared.Walk.{Walk}
use Rattle.walks.specs.Walk.{step_at}
use Rattle.walks.specs.Listed.{Entry, entry_of, WalksTo, Lists, lead_of, LeadsTo, Leads}
use Rattle.walks.specs.Refused.{begun_number, step_number}
use Rattle.c_words.specs.Words.{written, walk_in, step_words, moved_words}
use Rattle.c_answers.specs.Answers.{begun_words}
use Rattle.capi.specs.Loop.{Ended, LoopReads, LoopLists, LoopLeads}
use Rattle.c_words.proofs.Laws.{written-whole, written-length, walk_kept}
use Rattle.std.proofs.Common.{Result, Ok}
use Rattle.frames.specs.declared.Refusal.{Refusal}
use Rattle.walks.specs.declared.Step.{Step}

-- one call of the loop: the walk w in the words, and the step that it takes
module _ (s : List ℕ) (w : Walk) (walk out : List ℕ) (hw : 18 ≤ length walk) (ho : 9 ≤ length out) (ew : walk_in walk ≡ w) where
  at-walk : (x : Result Step Refusal) → step_at s w ≡ x → step_at s (walk_in walk) ≡ x
  at-walk x h = ap (λ (z : Walk). step_at s z) ew ∙ h

  words_are : (x : Result Step Refusal) → step_at s w ≡ x → length (step_words x) ≡ 9 → written (step_words (step_at s (walk_in walk))) out ≡ step_words x ++ drop (length (step_words x)) out
  words_are x h n = ap (λ (z : Result Step Refusal). written (step_words z) out) (at-walk x h) ∙ written-whole (step_words x) out (omega (arith, ho, n))

  at-end : step_at s w ≡ Ok Step.End → Ended (step_number (step_at s (walk_in walk))) (written (step_words (step_at s (walk_in walk))) out)
  at-end h =
      record {
        answers = ap step_number (at-walk (Ok Step.End) h);
        end = ap (λ (o : List ℕ). get_or o 0 0) (words_are (Ok Step.End) h refl);
      }

  long-walk : 18 ≤ length (written (moved_words (step_at s (walk_in walk))) walk)
  long-walk = omega (arith, hw, written-length (moved_words (step_at s (walk_in walk))) walk)

  long_out : 9 ≤ length (written (step_words (step_at s (walk_in walk))) out)
  long_out = omega (arith, ho, written-length (step_words (step_at s (walk_in walk))) out)

  moved_on : (x : Result Step Refusal) (w' : Walk) → step_at s w ≡ x → moved_words x ≡ begun_words (Ok w') → walk_in (written (moved_words (step_at s (walk_in walk))) walk) ≡ w'
  moved_on x w' h e =
      ap (λ (z : Result Step Refusal). walk_in (written (moved_words z) walk)) (at-walk x h) ∙ ap (λ (z : List ℕ). walk_in (written z walk)) e ∙ walk_kept w' walk hw

loop_lists : (s prefix : List ℕ) (es : List Entry) (w : Walk) (walk out : List ℕ) → 18 ≤ length walk → 9 ≤ length out → walk_in walk ≡ w → WalksTo s prefix w es
    → LoopLists s prefix walk out es
unfolding LoopReads WalksTo entry_of
loop_lists s prefix [] w walk out hw ho ew h = at-end s w walk out hw ho ew h
loop_lists s prefix (r ∷ es) w walk out hw ho ew h =
    let x : (Result Step Refusal) = Ok (Step.Found h.0 h.1) in
    let o = words_are s w walk out hw ho ew x h.2 refl in (
      record {
        answers = ap step_number (at-walk s w walk out hw ho ew x h.2);
        row = ap (λ (z : List ℕ). get_or z 0 0) o;
        key = ap (λ (z : List ℕ). prefix ++ part_or s (get_or z 1 0) (get_or z 2 0)) o ∙ ap (λ (t : Entry). t.key) h.3;
        ver = ap (λ (z : List ℕ). ver_of (get_or z 3 0) (get_or z 4 0)) o ∙ ap (λ (t : Entry). t.ver) h.3;
        value = ap (λ (z : List ℕ). part_or s (get_or z 5 0) (get_or z 6 0)) o ∙ ap (λ (t : Entry). t.value) h.3;
      },
      loop_lists s prefix es h.1 (written (moved_words (step_at s (walk_in walk))) walk) (written (step_words (step_at s (walk_in walk))) out)
          (long-walk s w walk out hw ho ew) (long_out s w walk out hw ho ew) (moved_on s w walk out hw ho ew x h.1 h.2 refl) h.4,
    )

loop_leads : (s prefix : List ℕ) (cs : List Child) (w : Walk) (walk out : List ℕ) → 18 ≤ length walk → 9 ≤ length out → walk_in walk ≡ w → LeadsTo s prefix w cs
    → LoopLeads s prefix walk out cs
unfolding LoopReads LeadsTo lead_of
loop_leads s prefix [] w walk out hw ho ew h = at-end s w walk out hw ho ew h
loop_leads s prefix (r ∷ cs) w walk out hw ho ew h =
    let x : (Result Step Refusal) = Ok (Step.Leads h.0 h.1) in
    let o = words_are s w walk out hw ho ew x h.2 refl in (
      record {
        answers = ap step_number (at-walk s w walk out hw ho ew x h.2);
        leads = ap (λ (z : List ℕ). get_or z 0 0) o;
        key = ap (λ (z : List ℕ). prefix ++ part_or s (get_or z 1 0) (get_or z 2 0)) o ∙ ap (λ (t : Child). t.key) h.3;
        page = ap (λ (z : List ℕ). page_id (get_or z 3 0)) o ∙ ap (λ (t : Child). t.page) h.3;
      },
      loop_leads s prefix cs h.1 (written (moved_words (step_at s (walk_in walk))) walk) (written (step_words (step_at s (walk_in walk))) out)
          (long-walk s w walk out hw ho ew) (long_out s w walk out hw ho ew) (moved_on s w walk out hw ho ew x h.1 h.2 refl) h.4,
    )

pub begun_in : (b : Result Walk Refusal) (walk : List ℕ) → 18 ≤ length walk → (w : Walk) → b ≡ Ok w → walk_in (written (begun_words b) walk) ≡ w
begun_in b walk hw w e = ap (λ (z : Result Walk Refusal). walk_in (written (begun_words z) walk)) e ∙ walk_kept w walk hw

-- what ct_forward and ct_backward leave is the walk that was begun; so with law_calls, which gives Lists and Leads for what a build stored,
-- demand 3 holds of the C loop
module _ (s prefix : List ℕ) (b : Result Walk Refusal) (walk out : List ℕ) (hw : 18 ≤ length walk) (ho : 9 ≤ length out) where
  long : 18 ≤ length (written (begun_words b) walk)
  long = omega (arith, hw, written-length (begun_words b) walk)

  pub begun-lists : (es : List Entry) → Lists s prefix b es → (begun_number b ≡ 0) × LoopLists s prefix (written (begun_words b) walk) out es
  begun-lists es h = (ap begun_number h.begun, loop_lists s prefix es h.walk (written (begun_words b) walk) out long ho (begun_in b walk hw h.walk h.begun) h.lists)

  pub begun-leads : (cs : List Child) → Leads s prefix b cs → (begun_number b ≡ 0) × LoopLeads s prefix (written (begun_words b) walk) out cs
  begun-leads cs h = (ap begun_number h.begun, loop_leads s prefix cs h.walk (written (begun_words b) walk) out long ho (begun_in b walk hw h.walk h.begun) h.leads)
