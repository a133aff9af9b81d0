-- A step of a walk over a page that was opened, case by case: its end, a leaf's head, an index page's record, an old version.
-- Assumes nothing.
use Prim.Native.Nat.{ℕ, suc, ◌+◌, ◌-◌, ◌<◌}
use mathlib.Core.Path.{◌≡◌, refl, sym, ap, ◌∙◌}
use mathlib.Core.Logic.{◌⊎◌, inl, inr}
use mathlib.Core.Bool.{Bool, true, false, cond}
use mathlib.Core.List.{List}
use native.Mathlib.Omega.{arith}
use borrow.Author.Tests.{eq-eqb, ne_eqb, lt-ltb, le-ltb}
use lib.Dec.{ltb, eqb}
use Rattle.numbers.specs.Number.{le_at}
use Rattle.frames.specs.declared.Addr.{Addr}
use Rattle.frames.specs.declared.Body.{Body}
use Rattle.frames.specs.Layout.{addr, page_id, Inside}
use Rattle.values.specs.declared.HistRef.{HistRef}
use Rattle.records.specs.declared.Rec.{Rec}
use Rattle.records.specs.Records.{rec_at}
use Rattle.pages.specs.declared.Place.{Place}
use Rattle.pages.specs.Sound.{history_at, old_rec, old_in, old_link, old_at, entered_of, entered, old_version}
use Rattle.pages.proofs.Olds.{history-inside}
use Rattle.walks.specs.declared.OldPlace.{OldPlace}
use Rattle.walks.specs.declared.Walk.{Walk}
use Rattle.walks.specs.declared.Item.{Item}
use Rattle.walks.specs.Walk.{sheet_of, older_of, older_on, walk_of, read_at, kind_of_way, moved_of, on_of, behind_of, item_of, rest_of, next_rec, next_in, next_old, enter_at, head_step, step_at}
use Rattle.walks.proofs.Lying.{read_is}
use Rattle.std.proofs.Common.{Option, Some, None, Ok}
use Rattle.walks.specs.declared.Step.{Step}

less_one : (k : ℕ) → suc k - 1 ≡ k
less_one k = omega arith

-- ---- the history part

-- behind the last old version of the last head the walk ends
pub step_end : (s : List ℕ) (w : Walk) → w.older.left ≡ 0 → w.heads ≡ 0 → step_at s w ≡ Ok Step.End
unfolding step_at
step_end s w e f = rw (e, f)

-- an old version
pub step_old : (s : List ℕ) (w : Walk) (x : Item) (p : OldPlace) → 0 < w.older.left → next_old s w.key w.older ≡ Some (x, p) → step_at s w ≡ Ok (Step.Found x (behind_of w p))
unfolding step_at
step_old s w x p l e = rw (lt-ltb 0 w.older.left l, e)

-- an old version of the history page in which the walk stands
in_next : (s : List ℕ) (w : Walk) (r : Rec) → (w.older.slot ≡ w.older.page.elems → ⊥) → read_at s w.older.page 2 w.older.slot ≡ Some r
    → next_old s w.key w.older ≡ Some (item_of s w.key r (addr 0), older_of w.older.page w.older.link (w.older.slot + 1) (w.older.left - 1))
unfolding next_old next_in
in_next s w r n q = rw (ne_eqb w.older.slot w.older.page.elems n) (ap (next_rec s w.key w.older (addr 0)) q)

pub step_in : (s : List ℕ) (w : Walk) (r : Rec) → 0 < w.older.left → (w.older.slot ≡ w.older.page.elems → ⊥) → read_at s w.older.page 2 w.older.slot ≡ Some r
    → step_at s w ≡ Ok (Step.Found (item_of s w.key r (addr 0)) (behind_of w (older_of w.older.page w.older.link (w.older.slot + 1) (w.older.left - 1))))
step_in s w r l n q =
    step_old s w (item_of s w.key r (addr 0)) (older_of w.older.page w.older.link (w.older.slot + 1) (w.older.left - 1)) l (in_next s w r n q)

-- a step names no page where it stays on the page h, and the page linked to where it enters that one (DECIDED 34)
abbrev pub Names : Addr → Body → Addr → Addr → Type 0
Names h b p names = ((p ≡ h) × (names ≡ addr 0)) ⊎ ((p ≡ b.link) × (names ≡ p))

-- where the reader of old versions reads one, so does the walk that carries the page; and it carries on with that one's page
pub record Next (s : List ℕ) (key : Place) (h : Addr) (b : Body) (i k : ℕ) (p : Addr) (q : ℕ) (r : Rec) : Type 0 where
  pub body : Body
  pub opened : history_at s p ≡ Some body
  pub read : rec_at s body q ≡ Some r
  pub names : Addr
  pub named : Names h b p names
  pub next : next_old s key (older_on b i (suc k)) ≡ Some (item_of s key r names, older_on body (q + 1) k)

-- a record of a history page
in_read : (s : List ℕ) (key : Place) (h : Addr) (b : Body) → history_at s h ≡ Some b → (i k : ℕ) (n : Addr) (r : Rec) → rec_at s b i ≡ Some r → next_in s key (older_on b i (suc k)) n ≡ Some (item_of s key r n, older_on b (i + 1) k)
unfolding next_in
in_read s key h b o i k n r e =
    let g = history-inside s h b o in
    rw (read_is s b g.inside 2 i (sym g.kind), e) (ap (λ (m : ℕ). Some (item_of s key r n, older_on b (i + 1) m)) (less_one k))

module _ (s : List ℕ) (key : Place) (h : Addr) (b : Body) (o : history_at s h ≡ Some b) (i k : ℕ) where
  here : (r : Rec) → eqb i b.elems ≡ false → rec_at s b i ≡ Some r → next_old s key (older_on b i (suc k)) ≡ Some (item_of s key r (addr 0), older_on b (i + 1) k)
  unfolding next_old
  here r t e = rw t (in_read s key h b o i k (addr 0) r e)

  linked : (d : Body) (r : Rec) → eqb i b.elems ≡ true → history_at s b.link ≡ Some d → rec_at s d 0 ≡ Some r → next_old s key (older_on b i (suc k)) ≡ Some (item_of s key r b.link, older_on d (0 + 1) k)
  unfolding next_old
  linked d r t u e = rw (t, u) (in_read s key b.link d u 0 k b.link r e)

  pub next-old : (p : Addr) (q : ℕ) (r : Rec) → old_at s h i ≡ Some (old_version p q r) → Next s key h b i k p q r
  unfolding old_at old_in
  next-old p q r e = by (eqb i b.elems) refl (rw o at e)
    where
      no : None ≡ Some (old_version p q r) → ⊥
      no n = let z : ◌≡◌ {A = ℕ} 0 1 = cc in omega arith

      same : (a : Addr) (d : Body) (j : ℕ) (x : Rec) (n : Addr) → history_at s a ≡ Some d → rec_at s d j ≡ Some x → Some (old_version a j x) ≡ Some (old_version p q r) → next_old s key (older_on b i (suc k)) ≡ Some (item_of s key x n, older_on d (j + 1) k) → Names h b a n → Next s key h b i k p q r
      same a d j x n u v w y m =
          let e1 : a ≡ p = grind arith in
          let e2 : j ≡ q = grind arith in
          let e3 : x ≡ r = grind arith in
          rw (← e1, ← e2, ← e3) (record { body = d; opened = u; read = v; names = n; named = m; next = y })

      at : (x : Option Rec) → rec_at s b i ≡ x → eqb i b.elems ≡ false → old_rec h i x ≡ Some (old_version p q r) → Next s key h b i k p q r
      at (Some x) v t w = same h b i x (addr 0) o v w (here x t v) (inl (refl, refl))
      at None v t w = absurd (no w)

      far : (d : Body) → history_at s b.link ≡ Some d → (x : Option Rec) → rec_at s d 0 ≡ x → eqb i b.elems ≡ true → old_rec b.link 0 x ≡ Some (old_version p q r) → Next s key h b i k p q r
      far d u (Some x) v t w = same b.link d 0 x b.link u v w (linked d x t u v) (inr (refl, refl))
      far d u None v t w = absurd (no w)

      link : (x : Option Body) → history_at s b.link ≡ x → eqb i b.elems ≡ true → old_link s b.link x ≡ Some (old_version p q r) → Next s key h b i k p q r
      link (Some d) u t w = far d u (rec_at s d 0) refl t w
      link None u t w = absurd (no w)

      by : (t : Bool) → eqb i b.elems ≡ t → cond t (old_link s b.link (history_at s b.link)) (old_in s b h i) ≡ Some (old_version p q r) → Next s key h b i k p q r
      by true t w = link (history_at s b.link) refl t w
      by false t w = at (rec_at s b i) refl t w

-- THE LAW of names: a walk that stands on the history page h, in the step that yields the old version of slot q of the page p
pub old-names : (s : List ℕ) (w : Walk) (h : Addr) (b : Body) → history_at s h ≡ Some b → (i k : ℕ) → w.older ≡ older_on b i (suc k) → (p : Addr) (q : ℕ) (r : Rec) → old_at s h i ≡ Some (old_version p q r) → (x : Item) × (w' : Walk) × (step_at s w ≡ Ok (Step.Found x w')) × Names h b p x.named
unfolding item_of
old-names s w h b o i k e p q r f =
    let g = next-old s w.key h b o i k p q r f in
    let u : 0 < w.older.left = rw e (omega arith) in (
      item_of s w.key r g.names,
      behind_of w (older_on g.body (q + 1) k),
      step_old s w (item_of s w.key r g.names) (older_on g.body (q + 1) k) u (ap (λ (z : OldPlace). next_old s w.key z) e ∙ g.next),
      g.named,
    )

-- ---- heads

-- a head with no history leaves what was left: nothing
pub enter_none : (s : List ℕ) (h : HistRef) (was : OldPlace) → h.count ≡ 0 → enter_at s h was ≡ Some was
unfolding enter_at
enter_none s h was e = rw (eq-eqb h.count 0 e)

-- one with history enters its page
pub enter_in : (s : List ℕ) (h : HistRef) (was : OldPlace) → (h.count ≡ 0 → ⊥) → entered s h.page h.slot ≡ true → (b : Body) × (history_at s h.page ≡ Some b) × (enter_at s h was ≡ Some (older_on b h.slot h.count))
unfolding enter_at entered
enter_in s h was n e = go (history_at s h.page) refl e
  where
    go : (o : Option Body) → history_at s h.page ≡ o → entered_of h.slot o ≡ true → (b : Body) × (history_at s h.page ≡ Some b) × (enter_at s h was ≡ Some (older_on b h.slot h.count))
    go (Some b) q t = (b, q, rw (ne_eqb h.count 0 n, q, t))
    go None q t = absurd (let z : ◌≡◌ {A = ℕ} 0 1 = cc in omega arith)

module _ (s : List ℕ) (b : Body) (i : Inside s b) (way at n : ℕ) (key : Place) (was : OldPlace) (z : was.left ≡ 0) (r : Rec) (e : rec_at s b at ≡ Some r) (k : kind_of_way way ≡ b.kind) where
  none : ltb 0 was.left ≡ false
  none = le-ltb 0 was.left (omega arith)

  pub step_head : (way ≡ 2 → ⊥) → (p : OldPlace) → enter_at s r.hist was ≡ Some p → step_at s (walk_of (sheet_of b) way at (suc n) key was) ≡ Ok (Step.Found (item_of s (rest_of r) r r.hist.page) (walk_of (sheet_of b) way (moved_of way at) n (rest_of r) p))
  unfolding step_at head_step on_of
  step_head t p f = rw (none, ne_eqb (suc n) 0 (λ q. omega arith), read_is s b i (kind_of_way way) at k, e, ne_eqb way 2 t, f) (ap (λ (m : ℕ). Ok (Step.Found (item_of s (rest_of r) r r.hist.page) (walk_of (sheet_of b) way (moved_of way at) m (rest_of r) p))) (less_one n))

  pub step_branch : way ≡ 2 → step_at s (walk_of (sheet_of b) way at (suc n) key was) ≡ Ok (Step.Leads (record { key = rest_of r; page = page_id (le_at 8 s r.val_at) }) (walk_of (sheet_of b) way (moved_of way at) n (rest_of r) was))
  unfolding step_at head_step on_of
  step_branch t = rw (none, ne_eqb (suc n) 0 (λ q. omega arith), read_is s b i (kind_of_way way) at k, e, eq-eqb way 2 t) (ap (λ (m : ℕ). Ok (Step.Leads (record { key = rest_of r; page = page_id (le_at 8 s r.val_at) }) (walk_of (sheet_of b) way (moved_of way at) m (rest_of r) was))) (less_one n))
