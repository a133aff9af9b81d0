-- The loop over a run of old versions: finishing from here gives the sums behind the run.
-- Assumes nothing.
use Prim.Native.Nat.{ℕ, ◌+◌, ◌-◌, ◌≤◌, ◌<◌}
use mathlib.Core.Path.{◌≡◌, sym, ap, ◌∙◌}
use mathlib.Core.List.{List, [], ◌∷◌}
use mathlib.Core.Bool.{false}
use native.Mathlib.Omega.{arith}
use lib.ListN.{length}
use Rattle.frames.specs.declared.Addr.{Addr}
use Rattle.frames.specs.Limits.{max_budget, max_entries, max_key, max_limit, max_value}
use Rattle.values.specs.Vals.{size_of}
use Rattle.values.specs.declared.HistRef.{HistRef}
use Rattle.build_sources.specs.Source.{Entry}
use Rattle.build_image.specs.Sizes.{remote_len}
use Rattle.law_rows.specs.Rows.{old_entry, old_entries}
use Rattle.build_sweep.specs.declared.Tally.{Tally}
use Rattle.build_sweep.specs.declared.Cut.{Cut}
use Rattle.build_sweep.specs.Tally.{with_old}
use Rattle.build_sweep.specs.Bounds.{Bounded}
use Rattle.build_sweep.specs.Cuts.{cut_with, Slim}
use Rattle.build_rows.specs.declared.Hand.{Hand}
use Rattle.build_rows.specs.declared.Spot.{Spot}
use Rattle.build_rows.specs.declared.Old.{Old}
use Rattle.build_rows.specs.Judged.{Runs, old_of}
use Rattle.build_rows.specs.Hand.{Holds, Answers, SpotAt, OldAt}
use Rattle.build_rows.proofs.Rows.{Turn, run_more, run_end, turn_answers, At, turn_at, Places, old-places, old_says}
use Rattle.build_page_sweep.specs.Going.{Goes}
use Rattle.build_page_sweep.specs.Sweeps.{RunDue, Run, RunSweptBy}
use Rattle.build_page_sweep.proofs.Going.{go_same, go_then, due-on, due-bounded, due_slim, go_old}

-- the sums go on over old versions, whatever key's they are: from n of them to m
abbrev pub RunGoes : List ℕ → ℕ → ℕ → ℕ → Addr → ℕ → Tally → Cut → ℕ → Addr → ℕ → Tally → Cut → Type 0
RunGoes w limit budget n a i t g m b j u k = (key : List ℕ) (p : ℕ) → length key ≤ max_key → Goes p limit budget (old_entries w key n a i) t g (old_entries w key m b j) u k

-- n old versions are left, from slot i of the page in hand on
pub record Running (w : List ℕ) (limit budget n₀ : ℕ) (a₀ : Addr) (i₀ : ℕ) (t₀ : Tally) (g₀ : Cut) (n : ℕ) (h : Hand) (i : ℕ) (t : Tally) (g : Cut) : Type 0 where
  pub goes : RunGoes w limit budget n₀ a₀ i₀ t₀ g₀ n h.page i t g
  pub due : RunDue w limit budget n h.page i t g
  pub runs : Runs w n h.page i
  pub holds : Holds w h
  pub few : t.heads + t.olds + n ≤ max_entries

module _ (w : List ℕ) (limit budget : ℕ) (f : HistRef) (t : Tally) (g : Cut) where
  -- there is none
  pub run_none : f.count ≡ 0 → RunSweptBy w limit budget f t g t g
  run_none e key p l = go_same p limit budget (old_entries w key f.count f.page f.slot) [] t g (run_end w key f.count f.page f.slot (omega arith))

  -- the first page is in hand
  pub run_begin : Run w f t → RunDue w limit budget f.count f.page f.slot t g → (h : Hand) → Holds w h → h.page ≡ f.page
      → Running w limit budget f.count h.page f.slot t g f.count h f.slot t g
  run_begin r d h hold e =
      record {
        goes = λ key p l all rest next x. x;
        due = rw e d;
        runs = rw e r.runs;
        holds = hold;
        few = r.few;
      }

module _ (w : List ℕ) (limit budget n₀ : ℕ) (a₀ : Addr) (i₀ : ℕ) (t₀ : Tally) (g₀ : Cut) (n : ℕ) (h : Hand) (i : ℕ) (t : Tally) (g : Cut) (inv : Running w limit budget n₀ a₀ i₀ t₀ g₀ n h i t g) where
  pub run_done : n ≤ 0 → (a : Addr) → a₀ ≡ a → (key : List ℕ) (p : ℕ) → length key ≤ max_key → Goes p limit budget (old_entries w key n₀ a i₀) t₀ g₀ [] t g
  run_done e a ea key p l =
      rw (sym ea)
      (go_then p limit budget (old_entries w key n₀ a₀ i₀) (old_entries w key n h.page i) t₀ g₀ t g (inv.goes key p l) [] t g
      (go_same p limit budget (old_entries w key n h.page i) [] t g (run_end w key n h.page i e)))

  pub run-bounded : Bounded t max_entries
  run-bounded = let d = inv.due in due-bounded d.p limit budget (old_entries w d.key n h.page i) t g d.due

  pub run_slim : Slim g
  run_slim = let d = inv.due in due_slim d.p limit budget (old_entries w d.key n h.page i) t g d.due

  -- one of them
  module _ (l : 0 < n) where
    turn : Turn w n h.page i
    turn = run_more w n h.page i inv.runs l

    pub run-answers : Answers w h.page i
    run-answers = turn_answers w n h.page i turn

    module _ (x : Spot) (sx : SpotAt w h.page i x) where
      at : At w n h.page i turn x
      at = turn_at w n h.page i turn x sx

      pub run-here : Answers w x.hand.page x.slot
      run-here = at.answers

      module _ (o : Old) (ox : OldAt w x.hand.page x.slot o) where
        old-is : o ≡ old_of turn.rec
        old-is = ox x.hand.page x.slot turn.rec at.read

        places : Places w turn.rec
        places = old-places w x.hand.page x.slot x.hand.page x.slot turn.rec at.read

        pub run-val : o.bytes.len ≤ max_value
        run-val = omega (arith, ap (λ (y : Old). y.bytes.len) old-is, places.small)

        module _ (lh : limit ≤ max_limit) (bh : budget ≤ max_budget) (u : Tally) (eu : u ≡ with_old limit t o.bytes.len o.bytes.remote.0) (k : Cut) (ek : k ≡ cut_with budget g (12 + size_of false limit o.bytes.len + 4) (remote_len limit o.bytes.len o.bytes.remote.0)) where
          one_on : RunGoes w limit budget n h.page i t g (n - 1) x.hand.page (x.slot + 1) u k
          one_on key p short =
              let es = old_entries w key (n - 1) x.hand.page (x.slot + 1) in
              go_then p limit budget (old_entries w key n h.page i) (old_entry w key turn.rec ∷ es) t g t g
              (go_same p limit budget (old_entries w key n h.page i) (old_entry w key turn.rec ∷ es) t g (at.entries key))
              es u k
              (go_old p limit budget (old_entry w key turn.rec) es t g (length key) o.bytes.len o.bytes.remote.0
              (ap (λ (y : Entry). length y.key) (old_says w key turn.rec))
              (ap (λ (y : Entry). length y.val) (old_says w key turn.rec) ∙ places.long ∙ sym (ap (λ (y : Old). y.bytes.len) old-is))
              (ap (λ (y : Entry). y.kept) (old_says w key turn.rec) ∙ sym (ap (λ (y : Old). y.bytes.remote.0) old-is))
              short run-val (omega (arith, inv.few, l)) lh bh
              (ap (λ (y : Entry). y.old) (old_says w key turn.rec))
              u eu k ek)

          pub run_on : Running w limit budget n₀ a₀ i₀ t₀ g₀ (n - 1) x.hand (x.slot + 1) u k
          run_on =
              let d = inv.due in
              record {
                goes = λ key p short.
                    go_then p limit budget (old_entries w key n₀ a₀ i₀) (old_entries w key n h.page i) t₀ g₀ t g (inv.goes key p short)
                    (old_entries w key (n - 1) x.hand.page (x.slot + 1)) u k (one_on key p short);
                due = record {
                  key = d.key;
                  short = d.short;
                  p = d.p;
                  due = due-on d.p limit budget (old_entries w d.key n h.page i) (old_entries w d.key (n - 1) x.hand.page (x.slot + 1)) t g u k (one_on d.key d.p d.short) d.due;
                };
                runs = at.more;
                holds = sx.holds;
                few = omega (arith, ap (λ (y : Tally). y.heads) eu, ap (λ (y : Tally). y.olds) eu, inv.few, l);
              }
