-- The short ways of the loop take the walk's own steps: an old version of the history page in which the walk stands, a head, the history
-- page that the loop knows.
-- Assumes nothing.
use Prim.Native.Nat.{ℕ, ◌+◌, ◌-◌, ◌*◌, ◌≤◌, ◌<◌}
use mathlib.Core.Path.{◌≡◌, refl, sym, ap, subst, ◌∙◌}
use mathlib.Core.Bool.{Bool, cond}
use mathlib.Core.List.{List}
use native.Mathlib.Omega.{arith}
use lib.Dec.{ltb}
use borrow.Author.Tests.{lt-ltb, le-ltb, ne_eqb}
use Rattle.spans.proofs.Tests.{ask}
use Rattle.frames.specs.declared.Body.{Body}
use Rattle.frames.specs.declared.Refusal.{Refusal}
use Rattle.frames.specs.Layout.{addr}
use Rattle.values.specs.declared.HistRef.{HistRef}
use Rattle.records.specs.declared.Rec.{Rec}
use Rattle.records.specs.Records.{rec_at}
use Rattle.records.proofs.Inside.{at_slot}
use Rattle.pages.specs.Sound.{history_at}
use Rattle.walks.specs.declared.OldPlace.{OldPlace}
use Rattle.walks.specs.declared.Walk.{Walk}
use Rattle.walks.specs.declared.Item.{Item}
use Rattle.walks.specs.declared.Branch.{Branch}
use Rattle.walks.specs.Walk.{older_of, older_on, walk_of, body_of, kind_of_way, moved_of, on_of, behind_of, item_of, rest_of, enter_of, enter_at, head_step, step_at}
use Rattle.walks.proofs.Lying.{body_is, body_reads}
use Rattle.walks.proofs.Steps.{step_in}
use Rattle.walks.proofs.Keeps.{Keeps, keeps}
use Rattle.spans.specs.Span.{put}
use Rattle.c_words.specs.Words.{item_words}
use Rattle.c_steps.specs.Turns.{Filling, KnownOlder, aged, same_page}
use Rattle.c_steps.proofs.Running.{filling_begin, filling_join, fills-found}
use Rattle.std.proofs.Common.{Option, Some, None, Result, Ok}
use Rattle.walks.specs.declared.Step.{Step}

-- ---- an old version

module _ (s : List ℕ) (w : Walk) (n : ℕ) (b : Body) (r : Rec) (e : body_of s w.older.page 2 ≡ Some b) (l : n < w.older.left)
    (q : rec_at s b (w.older.slot + n) ≡ Some r) where
  pub old_below : w.older.slot + n < w.older.page.elems
  old_below =
      let z : b.elems ≡ w.older.page.elems = ap (λ (y : Body). y.elems) (sym (body_is s w.older.page 2 b e)) in
      omega (arith, at_slot s b (w.older.slot + n) r q)

  abbrev then : OldPlace
  then = older_of w.older.page w.older.link (w.older.slot + n + 1) (w.older.left - n - 1)

  old-behind : behind_of (aged w n) then ≡ aged w (n + 1)
  unfolding behind_of
  old-behind =
      let i : w.older.slot + n + 1 ≡ w.older.slot + (n + 1) = omega arith in
      let k : w.older.left - n - 1 ≡ w.older.left - (n + 1) = omega arith in
      ap (λ (z : ℕ). walk_of w.page w.way w.pos w.heads w.key (older_of w.older.page w.older.link z (w.older.left - n - 1))) i
      ∙ ap (λ (z : ℕ). walk_of w.page w.way w.pos w.heads w.key (older_of w.older.page w.older.link (w.older.slot + (n + 1)) z)) k

  pub old_step_lem : step_at s (aged w n) ≡ Ok (Step.Found (item_of s w.key r (addr 0)) (aged w (n + 1)))
  old_step_lem =
      step_in s (aged w n) r (omega arith) (λ z. omega (arith, old_below, z)) (body_reads s w.older.page 2 b e (w.older.slot + n) ∙ q)
      ∙ ap (λ (v : Walk). Ok (Step.Found (item_of s w.key r (addr 0)) v)) old-behind

-- no old version yet
aged_none : (w : Walk) → aged w 0 ≡ w
aged_none w =
    let i : w.older.slot + 0 ≡ w.older.slot = omega arith in
    let k : w.older.left - 0 ≡ w.older.left = omega arith in
    ap (λ (z : ℕ). walk_of w.page w.way w.pos w.heads w.key (older_of w.older.page w.older.link z (w.older.left - 0))) i
    ∙ ap (λ (z : ℕ). walk_of w.page w.way w.pos w.heads w.key (older_of w.older.page w.older.link w.older.slot z)) k

-- the loop over the old versions of one history page, behind n of them
pub record Olding (s : List ℕ) (w : Walk) (o₀ : List ℕ) (first room : ℕ) (b : Body) (most : ℕ) (o : List ℕ) (at n : ℕ) : Type 0 where
  pub fills : Filling s room first w o₀ (aged w n) at n o
  pub body : body_of s w.older.page 2 ≡ Some b
  pub some : most ≤ room
  pub less : most ≤ w.older.left
  pub few : n ≤ most
  pub below : w.older.slot + n ≤ w.older.page.elems
  pub fresh : n ≡ 0 → o ≡ o₀

filling_none : (s : List ℕ) (w : Walk) (o : List ℕ) (first room : ℕ) → Filling s room first w o (aged w 0) first 0 o
filling_none s w o first room = subst (λ (z : Walk). Filling s room first w o z first 0 o) (sym (aged_none w)) (filling_begin s room first w o)

pub olding_begin : (s : List ℕ) (w : Walk) (o : List ℕ) (first room : ℕ) (b : Body) (most : ℕ) → body_of s w.older.page 2 ≡ Some b
    → most ≤ room → most ≤ w.older.left → w.older.slot ≤ w.older.page.elems → Olding s w o first room b most o first 0
olding_begin s w o first room b most e m l i =
    record { fills = filling_none s w o first room; body = e; some = m; less = l; few = omega arith; below = omega arith; fresh = λ z. refl }

module _ (s : List ℕ) (w : Walk) (o₀ : List ℕ) (first room : ℕ) (b : Body) (most : ℕ) (o : List ℕ) (at n : ℕ) (f : Olding s w o₀ first room b most o at n) where
  pub olding_next : (r : Rec) {o' : List ℕ} → n < most → rec_at s b (w.older.slot + n) ≡ Some r → o' ≡ put o at (item_words (item_of s w.key r (addr 0)))
      → Olding s w o₀ first room b most o' (at + 9) (n + 1)
  olding_next r {o'} h q p =
      let l : n < w.older.left = omega (arith, f.less) in
      record {
        fills =
            filling_join s room first w o₀ (aged w n) at n o f.fills (aged w (n + 1)) (at + 9) 1 o'
            (fills-found s (room - n) at (aged w n) o (omega (arith, f.some)) (item_of s w.key r (addr 0)) (aged w (n + 1)) refl (old_step_lem s w n b r f.body l q) p);
        body = f.body;
        some = f.some;
        less = f.less;
        few = omega arith;
        below = omega (arith, old_below s w n b r f.body l q);
        fresh = λ z. absurd (omega (arith, z));
      }

-- what the loop over old versions answers
abbrev OldsAre : List ℕ → Walk → List ℕ → ℕ → ℕ → ℕ → List ℕ → Type 0
OldsAre s w o₀ first room n o =
    (n ≤ w.older.left) × ((0 < n → w.older.slot + n ≤ w.older.page.elems) × ((n ≡ 0 → o ≡ o₀) × Filling s room first w o₀ (aged w n) (first + 9 * n) n o))

pub olds_none : (s : List ℕ) (w : Walk) (o : List ℕ) (first room : ℕ) → OldsAre s w o first room 0 o
olds_none s w o first room =
    let e : first ≡ first + 9 * 0 = omega arith in
    (omega arith, (λ z. omega (arith, z), (λ z. refl, subst (λ (i : ℕ). Filling s room first w o (aged w 0) i 0 o) e (filling_none s w o first room))))

pub olds_are : (s : List ℕ) (w : Walk) (o₀ : List ℕ) (first room : ℕ) (b : Body) (most : ℕ) (o : List ℕ) (at n : ℕ) → Olding s w o₀ first room b most o at n → OldsAre s w o₀ first room n o
olds_are s w o₀ first room b most o at n f =
    (omega (arith, f.few, f.less), (λ z. f.below, (f.fresh, subst (λ (i : ℕ). Filling s room first w o₀ (aged w n) i n o) f.fills.place f.fills)))

-- ---- a head

pub rec_none : (r : Rec) → None ≡ Some r → ⊥
rec_none r e = let z : ◌≡◌ {A = ℕ} 0 1 = cc in omega arith

pub head_step_lem : (s : List ℕ) (w : Walk) (b : Body) (r : Rec) (p : OldPlace) → w.older.left ≡ 0 → (w.heads ≡ 0 → ⊥) → (w.way ≡ 2 → ⊥)
    → body_of s w.page 0 ≡ Some b → rec_at s b w.pos ≡ Some r → enter_at s r.hist w.older ≡ Some p
    → step_at s w ≡ Ok (Step.Found (item_of s (rest_of r) r r.hist.page) (walk_of w.page w.way (moved_of w.way w.pos) (w.heads - 1) (rest_of r) p))
unfolding step_at head_step kind_of_way on_of
head_step_lem s w b r p l h y e q n =
    rw (le-ltb 0 w.older.left (omega arith), ne_eqb w.heads 0 h, ne_eqb w.way 2 y, body_reads s w.page 0 b e w.pos ∙ q, ne_eqb w.way 2 y, n)

-- ---- the known history page

pub known_none : (s : List ℕ) (p : OldPlace) → KnownOlder s 0 p
known_none s p = record { enters = λ z slot count. absurd (z refl) }

pub known_at : (s : List ℕ) (a : ℕ) (p : OldPlace) (slot left : ℕ) → KnownOlder s a p → KnownOlder s a (older_of p.page p.link slot left)
known_at s a p slot left k = record { enters = k.enters }

pub enter_known : (s : List ℕ) (h : HistRef) (was : OldPlace) (a : ℕ) → KnownOlder s a was → (h.count ≡ 0 → ⊥) → (a ≡ 0 → ⊥) → h.page.0 ≡ a
    → h.slot < was.page.elems → enter_at s h was ≡ Some (older_of was.page was.link h.slot h.count)
unfolding enter_at
enter_known s h was a k c n e l =
    rw (ne_eqb h.count 0 c)
    (ap (λ (z : ℕ). enter_of h.slot h.count (history_at s (addr z))) e
    ∙ k.enters n h.slot h.count
    ∙ ap (λ (t : Bool). cond t (Some (older_of was.page was.link h.slot h.count)) None) (lt-ltb h.slot was.page.elems l))

-- a page that was entered is known from then on
pub known-entered : (s : List ℕ) (h : HistRef) (was p : OldPlace) → (h.count ≡ 0 → ⊥) → enter_at s h was ≡ Some p → KnownOlder s h.page.0 p
unfolding enter_at
known-entered s h was p c e = go (history_at s h.page) refl (sym (ap (λ (t : Bool). cond t (Some was) (enter_of h.slot h.count (history_at s h.page))) (ne_eqb h.count 0 c)) ∙ e)
  where
    go : (x : Option Body) → history_at s h.page ≡ x → enter_of h.slot h.count (history_at s h.page) ≡ Some p → KnownOlder s h.page.0 p
    go x q u = by x q (sym (ap (enter_of h.slot h.count) q) ∙ u)
      where
        by : (x : Option Body) → history_at s h.page ≡ x → enter_of h.slot h.count x ≡ Some p → KnownOlder s h.page.0 p
        by (Some b) q u =
            let a1 = ask (ltb h.slot b.elems) (Some (older_on b h.slot h.count)) None (Some p) (λ z. absurd (let y : ◌≡◌ {A = ℕ} 0 1 = cc in omega arith)) u in
            let d : older_on b h.slot h.count ≡ p = let y = a1.1 in cc in
            subst (λ (z : OldPlace). KnownOlder s h.page.0 z) d (record { enters = λ n slot count. ap (enter_of slot count) q })
        by None q u = absurd (let y : ◌≡◌ {A = ℕ} 0 1 = cc in omega arith)

-- ---- the page and the way stay: the step with them put back is the step

pub found-on : (s : List ℕ) (w : Walk) (x : Item) (v : Walk) {u : Walk} → step_at s w ≡ Ok (Step.Found x v) → u ≡ same_page w v → step_at s w ≡ Ok (Step.Found x u)
found-on s w x v e q = e ∙ ap (λ (z : Walk). Ok (Step.Found x z)) (sym (q ∙ subst (λ (y : Result Step Refusal). Keeps w y) e (keeps s w)))

pub leads-on : (s : List ℕ) (w : Walk) (x : Branch) (v : Walk) {u : Walk} → step_at s w ≡ Ok (Step.Leads x v) → u ≡ same_page w v → step_at s w ≡ Ok (Step.Leads x u)
leads-on s w x v e q = e ∙ ap (λ (z : Walk). Ok (Step.Leads x z)) (sym (q ∙ subst (λ (y : Result Step Refusal). Keeps w y) e (keeps s w)))
