-- One step of the walk in a caller's words: each answer of the walk's step says it, and the short ways take that step.
-- Assumes nothing.
use Prim.Native.Nat.{ℕ, ◌+◌, ◌-◌, ◌≤◌, ◌<◌}
use mathlib.Core.Path.{◌≡◌, refl, sym, ap, subst, ◌∙◌}
use mathlib.Core.Bool.{true, false}
use mathlib.Core.List.{List}
use native.Mathlib.Omega.{arith}
use lib.ListN.{length}
use Rattle.spans.specs.Span.{put}
use Rattle.frames.specs.declared.Body.{Body}
use Rattle.frames.specs.declared.Refusal.{Refusal}
use Rattle.frames.specs.Layout.{addr}
use Rattle.frames.specs.Refusals.{number_of}
use Rattle.values.specs.declared.HistRef.{HistRef}
use Rattle.records.specs.declared.Rec.{Rec}
use Rattle.records.specs.Records.{rec_at}
use Rattle.records.proofs.Inside.{at_slot}
use Rattle.walks.specs.declared.OldPlace.{OldPlace}
use Rattle.walks.specs.declared.Walk.{Walk}
use Rattle.walks.specs.declared.Item.{Item}
use Rattle.walks.specs.declared.Branch.{Branch}
use Rattle.walks.specs.Walk.{body_of, moved_of, on_of, behind_of, item_of, rest_of, enter_at, step_at}
use Rattle.walks.specs.Refused.{step_number}
use Rattle.walks.proofs.Steps.{step_in, enter_none}
use Rattle.walks.proofs.Lying.{body_is, body_reads}
use Rattle.c_words.specs.Words.{written, walk_in, walk_words, aged_to, head_to, item_words, branch_words, end_words, step_words, moved_words}
use Rattle.c_words.proofs.Laws.{written_none, written-length, walk_kept}
use Rattle.c_words.proofs.Changed.{none_changed, written_over}
use Rattle.c_steps.specs.Turns.{Ahead}
use Rattle.c_step.specs.OneStep.{Stepped, Takes, Within, Enters}
use Rattle.std.proofs.Common.{Some, Result, Ok, Err}
use Rattle.walks.specs.declared.Step.{Step}

other : true ≡ false → ⊥
other e = let z : ◌≡◌ {A = ℕ} 0 1 = cc in omega arith

-- ---- the history behind a head

module _ (s walk : List ℕ) (h : HistRef) where
  enters : {walk' : List ℕ} → Within s h walk walk' → Enters s h walk true walk'
  enters f = record { took = λ e. f; left = λ e. absurd (other e) }

  pub enters_not : Enters s h walk false walk
  enters_not = record { took = λ e. absurd (other (sym e)); left = λ e. refl }

  -- none to enter
  pub enters_none : 18 ≤ length walk → h.count ≡ 0 → Enters s h walk true walk
  unfolding behind_of
  enters_none l e = enters (record { older = (walk_in walk).older; enters = enter_none s h (walk_in walk).older e; stored = none_changed walk l })

  pub enters_is : (p : OldPlace) {was : OldPlace} → was ≡ (walk_in walk).older → enter_at s h was ≡ Some p
      → {walk' : List ℕ} → walk' ≡ written (walk_words (behind_of (walk_in walk) p)) walk → Enters s h walk true walk'
  enters_is p u e m = enters (record { older = p; enters = ap (λ (z : OldPlace). enter_at s h z) (sym u) ∙ e; stored = m })

  pub within-long : {walk' : List ℕ} → Within s h walk walk' → 18 ≤ length walk → 18 ≤ length walk'
  within-long {walk'} f l = let e : length walk' ≡ length walk = ap length f.stored ∙ written-length (walk_words (behind_of (walk_in walk) f.older)) walk in omega (arith, e, l)

module _ (s walk out : List ℕ) where
  -- ---- by the walk's own step

  by : (y : Result Step Refusal) {r : ℕ} {walk' out' : List ℕ} → step_at s (walk_in walk) ≡ y → r ≡ step_number y → walk' ≡ written (moved_words y) walk → out' ≡ written (step_words y) out
      → Stepped s walk out r walk' out'
  by y e n m t =
      record {
        number = n ∙ ap step_number (sym e);
        moved = m ∙ ap (λ (z : Result Step Refusal). written (moved_words z) walk) (sym e);
        told = t ∙ ap (λ (z : Result Step Refusal). written (step_words z) out) (sym e);
      }

  pub stepped_found : (x : Item) (v : Walk) {walk' out' : List ℕ} → step_at s (walk_in walk) ≡ Ok (Step.Found x v) → walk' ≡ written (walk_words v) walk → out' ≡ put out 0 (item_words x)
      → Stepped s walk out 0 walk' out'
  unfolding written
  stepped_found x v e m t = by (Ok (Step.Found x v)) e refl m t

  pub stepped_leads : (x : Branch) (v : Walk) {walk' out' : List ℕ} → step_at s (walk_in walk) ≡ Ok (Step.Leads x v) → walk' ≡ written (walk_words v) walk → out' ≡ put out 0 (branch_words x)
      → Stepped s walk out 0 walk' out'
  unfolding written
  stepped_leads x v e m t = by (Ok (Step.Leads x v)) e refl m t

  pub stepped_end : {out' : List ℕ} → step_at s (walk_in walk) ≡ Ok Step.End → out' ≡ written end_words out → Stepped s walk out 0 walk out'
  stepped_end e t = by (Ok Step.End) e refl (sym (written_none walk)) t

  pub stepped_refused : (n : Refusal) {r : ℕ} → step_at s (walk_in walk) ≡ Err n → r ≡ number_of n → Stepped s walk out r walk out
  stepped_refused n e q = by (Err n) e q (sym (written_none walk)) (sym (written_none out))

  -- behind a short way that left every word as it was
  pub stepped_from : {walk₁ out₁ : List ℕ} → (walk₁ ≡ walk) × (out₁ ≡ out) → {r : ℕ} {walk' out' : List ℕ} → Stepped s walk₁ out₁ r walk' out' → Stepped s walk out r walk' out'
  stepped_from {walk₁} {out₁} e {r} {walk'} {out'} f =
      subst (λ (o : List ℕ). Stepped s walk o r walk' out') e.1 (subst (λ (w : List ℕ). Stepped s w out₁ r walk' out') e.0 f)

  takes : {walk' out' : List ℕ} → Stepped s walk out 0 walk' out' → Takes s walk out true walk' out'
  takes f = record { took = λ e. f; left = λ e. absurd (other e) }

  pub takes_left : {walk' : List ℕ} → walk' ≡ walk → Takes s walk out false walk' out
  takes_left q = record { took = λ e. absurd (other (sym e)); left = λ e. (q, refl) }

  pub takes_not : Takes s walk out false walk out
  takes_not = takes_left refl

  -- ---- an old version, the page in hand

  pub took-old : {w : Walk} → w ≡ walk_in walk → 0 < w.older.left → (b : Body) → body_of s w.older.page 2 ≡ Some b → (r : Rec) → rec_at s b w.older.slot ≡ Some r
      → {walk' out' : List ℕ} → walk' ≡ written (walk_words (aged_to (walk_in walk) (w.older.slot + 1) (w.older.left - 1))) walk
      → out' ≡ put out 0 (item_words (item_of s w.key r (addr 0))) → Takes s walk out true walk' out'
  unfolding behind_of
  took-old {w} u l b o r q {walk'} {out'} m t =
      let i : b.elems ≡ w.older.page.elems = ap (λ (y : Body). y.elems) (sym (body_is s w.older.page 2 b o)) in
      takes (stepped_found (item_of s w.key r (addr 0)) (aged_to (walk_in walk) (w.older.slot + 1) (w.older.left - 1))
      (subst (λ (v : Walk). step_at s v ≡ Ok (Step.Found (item_of s w.key r (addr 0)) (aged_to v (w.older.slot + 1) (w.older.left - 1)))) u
      (step_in s w r l (λ z. omega (arith, i, at_slot s b w.older.slot r q, z)) (body_reads s w.older.page 2 b o w.older.slot ∙ q)))
      m t)

  -- ---- a head, its history entered

  pub took_head : 18 ≤ length walk → {w : Walk} → w ≡ walk_in walk → (r : Rec) → Ahead s w r → {walk₁ : List ℕ} → Within s r.hist walk walk₁ → {p : ℕ} → p ≡ moved_of w.way w.pos
      → {walk' out' : List ℕ} → walk' ≡ written (walk_words (head_to (walk_in walk₁) p (w.heads - 1) (rest_of r))) walk₁
      → out' ≡ put out 0 (item_words (item_of s (rest_of r) r r.hist.page)) → Takes s walk out true walk' out'
  unfolding behind_of on_of
  took_head h {w} u r a {walk₁} f {p} d {walk'} {out'} m t =
      let o = f.older in
      let v = behind_of (walk_in walk) o in
      let k : walk_in walk₁ ≡ v = ap walk_in f.stored ∙ walk_kept v walk h in
      let e : enter_at s r.hist w.older ≡ Some o = ap (λ (z : Walk). enter_at s r.hist z.older) u ∙ f.enters in
      takes (stepped_found (item_of s (rest_of r) r r.hist.page) (on_of w (rest_of r) o)
      (ap (λ (z : Walk). step_at s z) (sym u) ∙ a.steps o e)
      (m
      ∙ ap (λ (z : Walk). written (walk_words (head_to z p (w.heads - 1) (rest_of r))) walk₁) k
      ∙ ap (λ (z : List ℕ). written (walk_words (head_to v p (w.heads - 1) (rest_of r))) z) f.stored
      ∙ written_over walk h v (head_to v p (w.heads - 1) (rest_of r))
      ∙ ap (λ (z : Walk). written (walk_words (head_to (behind_of z o) p (w.heads - 1) (rest_of r))) walk) (sym u)
      ∙ ap (λ (i : ℕ). written (walk_words (head_to (behind_of w o) i (w.heads - 1) (rest_of r))) walk) d)
      t)
