-- Heads without history, one behind the other: the loop over them takes the walk's own steps, and so does the head behind them.
-- Assumes nothing.
-- ---- the leaf of a walk
use Prim.Native.Nat.{ℕ, ◌+◌, ◌-◌, ◌*◌, ◌≤◌, ◌<◌}
use mathlib.Core.Path.{◌≡◌, refl, sym, ap, subst, ◌∙◌}
use mathlib.Core.List.{List}
use native.Mathlib.Omega.{arith}
use lib.ListN.{length}
use Rattle.frames.specs.declared.Addr.{Addr}
use Rattle.frames.specs.declared.Body.{Body}
use Rattle.frames.specs.Layout.{addr, Inside}
use Rattle.records.specs.declared.Rec.{Rec}
use Rattle.records.specs.Records.{rec_at}
use Rattle.records.proofs.Inside.{at_slot, ver-inside}
use Rattle.pages.specs.Boundaries.{place}
use Rattle.walks.specs.declared.OldPlace.{OldPlace}
use Rattle.walks.specs.declared.Walk.{Walk}
use Rattle.walks.specs.Walk.{walk_of, body_of, moved_of, on_of, item_of, rest_of, step_at}
use Rattle.walks.proofs.Lying.{body_is, body-inside}
use Rattle.walks.proofs.Steps.{enter_none}
use Rattle.spans.specs.Span.{put}
use Rattle.c_words.specs.Words.{item_words}
use Rattle.c_steps.specs.declared.Plain.{Plain}
use Rattle.c_steps.specs.Turns.{Filling, Ahead, Plains, Heads, on_to, headed_by}
use Rattle.c_steps.proofs.Bare.{at_bare}
use Rattle.c_steps.proofs.Running.{filling_begin, filling_join, fills-found}
use Rattle.c_steps.proofs.Ways.{rec_none, head_step_lem}
use Rattle.std.proofs.Common.{Option, Some, None, Ok}
use Rattle.walks.specs.declared.Step.{Step}

module _ (s : List ℕ) (w : Walk) (b : Body) (e : body_of s w.page 0 ≡ Some b) where
  pub leaf_kind : b.kind ≡ 0
  leaf_kind = ap (λ (y : Body). y.kind) (sym (body_is s w.page 0 b e))

  pub leaf_inside : Inside s b
  leaf_inside = body-inside s w.page 0 b e

  module _ (i : ℕ) (r : Rec) (q : rec_at s b i ≡ Some r) where
    pub leaf_below : i < length s
    leaf_below =
        let k = leaf_inside in
        omega (arith, at_slot s b i r q, k.slots, k.records, k.payload, k.arena)

    pub leaf_ver : r.ver_at + 12 ≤ length s
    leaf_ver = ver-inside s b i r leaf_inside (λ z. omega (arith, leaf_kind, z)) q

  -- the head at the walk, read, is the walk's step
  pub head_ahead : w.older.left ≡ 0 → (w.heads ≡ 0 → ⊥) → (w.way ≡ 2 → ⊥) → (r : Rec) → rec_at s b w.pos ≡ Some r → Ahead s w r
  unfolding on_of
  head_ahead l h y r q =
      record {
        some = omega (arith, h);
        below = leaf_below w.pos r q;
        ver = leaf_ver w.pos r q;
        steps = λ (x : OldPlace) z. head_step_lem s w b r x l h y e q z;
      }

-- ---- the loop over heads without history, behind n of them

pub record Heading (s : List ℕ) (w : Walk) (o₀ : List ℕ) (first room : ℕ) (b : Body) (most : ℕ) (o : List ℕ) (at p ka kl n : ℕ) : Type 0 where
  pub fills : Filling s room first w o₀ (on_to w n p (place ka kl)) at n o
  pub body : body_of s w.page 0 ≡ Some b
  pub way : w.way ≡ 2 → ⊥
  pub left : w.older.left ≡ 0
  pub some : most ≤ room
  pub less : most ≤ w.heads
  pub few : n ≤ most
  pub fresh : n ≡ 0 → o ≡ o₀

filling_none : (s : List ℕ) (w : Walk) (o : List ℕ) (first room : ℕ) → Filling s room first w o (on_to w 0 w.pos w.key) first 0 o
filling_none s w o first room =
    let i : w.heads ≡ w.heads - 0 = omega arith in
    subst (λ (k : ℕ). Filling s room first w o (walk_of w.page w.way w.pos k w.key w.older) first 0 o) i (filling_begin s room first w o)

pub heading_begin : (s : List ℕ) (w : Walk) (o : List ℕ) (first room : ℕ) (b : Body) (most : ℕ) → body_of s w.page 0 ≡ Some b → (w.way ≡ 2 → ⊥) → w.older.left ≡ 0
    → most ≤ room → most ≤ w.heads → Heading s w o first room b most o first w.pos w.key.at w.key.len 0
heading_begin s w o first room b most e y l m h =
    record { fills = filling_none s w o first room; body = e; way = y; left = l; some = m; less = h; few = omega arith; fresh = λ z. refl }

-- nothing read
pub plains_none : (s : List ℕ) (w : Walk) (o : List ℕ) (first room : ℕ) → Plains s room first w o (record { count = 0; pos = w.pos; key = w.key; next = None }) o
plains_none s w o first room =
    let e : first ≡ first + 9 * 0 = omega arith in
    record {
      few = omega arith;
      fresh = λ z. refl;
      fills = subst (λ (i : ℕ). Filling s room first w o (on_to w 0 w.pos w.key) i 0 o) e (filling_none s w o first room);
      next = λ r z. absurd (rec_none r z);
    }

module _ (s : List ℕ) (w : Walk) (o₀ : List ℕ) (first room : ℕ) (b : Body) (most : ℕ) (o : List ℕ) (at p ka kl n : ℕ) (f : Heading s w o₀ first room b most o at p ka kl n) where
  abbrev here : Walk
  here = on_to w n p (place ka kl)

  -- the head at hand is the walk's step
  pub heading_ahead : (r : Rec) → n < most → rec_at s b p ≡ Some r → Ahead s here r
  heading_ahead r l q = head_ahead s here b f.body f.left (λ y. omega (arith, y, l, f.less)) f.way r q

  -- one without history leaves the past as it was
  head_plain : (r : Rec) {p' : ℕ} → n < most → rec_at s b p ≡ Some r → r.hist.count ≡ 0 → p' ≡ moved_of w.way p
      → step_at s here ≡ Ok (Step.Found (item_of s (rest_of r) r (addr 0)) (on_to w (n + 1) p' (rest_of r)))
  unfolding on_of
  head_plain r {p'} l q c m =
      let i : w.heads - n - 1 ≡ w.heads - (n + 1) = omega arith in
      (heading_ahead r l q).steps w.older (enter_none s r.hist w.older c)
      ∙ ap (λ (a : Addr). Ok (Step.Found (item_of s (rest_of r) r a) (on_of here (rest_of r) w.older))) (at_bare s b p r q c)
      ∙ ap (λ (k : ℕ). Ok (Step.Found (item_of s (rest_of r) r (addr 0)) (walk_of w.page w.way (moved_of w.way p) k (rest_of r) w.older))) i
      ∙ ap (λ (k : ℕ). Ok (Step.Found (item_of s (rest_of r) r (addr 0)) (on_to w (n + 1) k (rest_of r)))) (sym m)

  pub heading_next : (r : Rec) {o' : List ℕ} {p' : ℕ} → n < most → rec_at s b p ≡ Some r → r.hist.count ≡ 0 → p' ≡ moved_of w.way p
      → o' ≡ put o at (item_words (item_of s (rest_of r) r (addr 0))) → Heading s w o₀ first room b most o' (at + 9) p' r.rest_at r.rest_len (n + 1)
  heading_next r {o'} {p'} l q c m u =
      record {
        fills =
            filling_join s room first w o₀ here at n o f.fills (on_to w (n + 1) p' (rest_of r)) (at + 9) 1 o'
            (fills-found s (room - n) at here o (omega (arith, l, f.some)) (item_of s (rest_of r) r (addr 0)) (on_to w (n + 1) p' (rest_of r)) refl (head_plain r l q c m) u);
        body = f.body;
        way = f.way;
        left = f.left;
        some = f.some;
        less = f.less;
        few = omega arith;
        fresh = λ z. absurd (omega (arith, z));
      }

  -- what the loop answers, with the head at hand if it has been read
  pub plains_are : (y : Option Rec) → ((r : Rec) → y ≡ Some r → (n < most) × (rec_at s b p ≡ Some r))
      → Plains s room first w o₀ (record { count = n; pos = p; key = place ka kl; next = y }) o
  plains_are y h =
      record {
        few = omega (arith, f.few, f.less);
        fresh = f.fresh;
        fills = subst (λ (i : ℕ). Filling s room first w o₀ here i n o) f.fills.place f.fills;
        next = λ r z. (omega (arith, (h r z).0, f.some), heading_ahead r (h r z).0 (h r z).1);
      }

-- the head with history behind them, and the walk behind it
pub plains_head : (s : List ℕ) (room at : ℕ) (w : Walk) (o : List ℕ) (x : Plain) (o' : List ℕ) → Plains s room at w o x o' → (h : Rec) → x.next ≡ Some h
    → {u : Walk} → u ≡ headed_by w x → (r : Rec) (v : Walk) (a : ℕ) → Heads s u (Some (r, v, a)) → {o'' : List ℕ}
    → o'' ≡ put o' (at + 9 * x.count) (item_words (item_of s v.key r r.hist.page)) → Filling s room at w o v (at + 9 * (x.count + 1)) (x.count + 1) o''
plains_head s room at w o x o' f h e {u} i r v a g {o''} q =
    filling_join s room at w o (headed_by w x) (at + 9 * x.count) x.count o' f.fills v (at + 9 * (x.count + 1)) 1 o''
    (fills-found s (room - x.count) (at + 9 * x.count) (headed_by w x) o' (omega (arith, (f.next h e).0)) (item_of s v.key r r.hist.page) v (omega arith)
    (subst (λ (z : Walk). step_at s z ≡ Ok (Step.Found (item_of s v.key r r.hist.page) v)) i g.0) q)
