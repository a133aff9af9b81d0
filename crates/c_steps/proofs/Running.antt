-- The turns of ct_steps' loop, over any count of turns, and what its words come to.
-- Assumes nothing.
use Prim.Native.Nat.{ℕ, zero, suc, ◌+◌, ◌-◌, ◌*◌, ◌^◌, ◌≤◌, ◌<◌}
use mathlib.Core.Path.{◌≡◌, refl, sym, ap, ◌∙◌}
use mathlib.Core.Bool.{Bool, true, false, cond}
use mathlib.Core.List.{List, [], ◌∷◌, ◌++◌}
use native.Mathlib.Omega.{arith}
use native.Mathlib.Nat.{div-add-mod}
use lib.Dec.{eqb}
use lib.ListN.{length, set}
use lib.Seq.{set_comm}
use borrow.Author.Tests.{eq-eqb, ne_eqb, eqb-true}
use Rattle.spans.specs.Span.{put}
use Rattle.spans.proofs.Put.{put_nil, put_one, put_cons, put-append, length-put}
use Rattle.frames.specs.declared.Refusal.{Refusal}
use Rattle.frames.specs.Refusals.{number_of}
use Rattle.walks.specs.declared.Walk.{Walk}
use Rattle.walks.specs.declared.Item.{Item}
use Rattle.walks.specs.declared.Branch.{Branch}
use Rattle.walks.specs.Walk.{step_at}
use Rattle.c_steps.specs.declared.Run.{Run}
use Rattle.c_words.specs.Words.{written, walk_words, item_words, branch_words}
use Rattle.c_steps.specs.Turns.{Filling, Stopping}
use Rattle.c_steps.specs.Steps.{run, run_by, run_of, words_by, run_words, run_number, run_walk, run_says, room_in}
use Rattle.std.proofs.Common.{Result, Ok, Err}
use Rattle.walks.specs.declared.Step.{Step}

pub filling_begin : (s : List ℕ) (most first : ℕ) (w : Walk) (o : List ℕ) → Filling s most first w o w first 0 o
filling_begin s most first w o =
    let l : most - 0 ≡ most = omega arith in
    record {
      few = omega arith;
      place = omega arith;
      ends = λ (j : ℕ). let e : j + 0 ≡ j = omega arith in ap (λ (i : ℕ). run_of i (j + 0) s w) l ∙ ap (λ (i : ℕ). run_of most i s w) e;
      writes = ap (λ (i : ℕ). put o first (run_words i s w)) l;
      long = refl;
    }

module _ (s : List ℕ) (most first : ℕ) (w₀ : Walk) (o₀ : List ℕ) (w : Walk) (at k : ℕ) (o : List ℕ) (f : Filling s most first w₀ o₀ w at k o) where
  -- some records more, one behind the other
  pub filling_join : (v : Walk) (at' n : ℕ) (o' : List ℕ) → Filling s (most - k) at w o v at' n o' → Filling s most first w₀ o₀ v at' (k + n) o'
  filling_join v at' n o' g =
      let l : most - (k + n) ≡ most - k - n = omega arith in
      record {
        few = omega (arith, f.few, g.few);
        place = omega (arith, f.place, g.place);
        ends =
            λ (j : ℕ). let e : j + (k + n) ≡ j + k + n = omega arith in
            ap (λ (i : ℕ). run_of i (j + (k + n)) s v) l ∙ ap (λ (i : ℕ). run_of (most - k - n) i s v) e ∙ g.ends (j + k) ∙ f.ends j;
        writes = ap (λ (i : ℕ). put o' at' (run_words i s v)) l ∙ g.writes ∙ f.writes;
        long = g.long ∙ f.long;
      }

  abbrev Done : ℕ → List ℕ → Type 0
  Done number o' = (run k number w ≡ run_of most 0 s w₀) × (o' ≡ put o₀ first (run_words most s w₀))

  -- no step left
  pub filling_full : most ≤ k → Done 0 o
  unfolding run_of run_words
  filling_full h =
      let l : most - k ≡ 0 = omega arith in
      let e : 0 + k ≡ k = omega arith in (
        sym (ap (λ (i : ℕ). run_of i (0 + k) s w) l ∙ ap (λ (i : ℕ). run i 0 w) e) ∙ f.ends 0,
        sym (put_nil o at) ∙ ap (λ (z : List ℕ). put o at z) (sym (ap (λ (i : ℕ). run_words i s w) l)) ∙ f.writes,
      )

  -- or the one at hand has no record
  pub filling_stop : (number : ℕ) (o' : List ℕ) → Stopping s (most - k) w o number o' → Done number o'
  filling_stop number o' g =
      let e : 0 + k ≡ k = omega arith in (
        ap (λ (i : ℕ). run i number w) (sym e) ∙ sym (g.ends (0 + k)) ∙ f.ends 0,
        g.same ∙ sym (put_nil o at) ∙ ap (λ (z : List ℕ). put o at z) (sym g.writes) ∙ f.writes,
      )

-- the step at hand
module _ (s : List ℕ) (most at : ℕ) (w : Walk) (o : List ℕ) (h : 0 < most) where
  turn : (j : ℕ) (x : Result Step Refusal) → step_at s w ≡ x → run_of most j s w ≡ run_by (λ (v : Walk). run_of (most - 1) (j + 1) s v) j w x
  unfolding run_of
  turn j x e =
      let l : most ≡ suc (most - 1) = omega arith in
      ap (λ (i : ℕ). run_of i j s w) l ∙ ap (λ (z : Result Step Refusal). run_by (λ (v : Walk). run_of (most - 1) (j + 1) s v) j w z) e

  turn_words : (x : Result Step Refusal) → step_at s w ≡ x → run_words most s w ≡ words_by (λ (v : Walk). run_words (most - 1) s v) x
  unfolding run_words
  turn_words x e =
      let l : most ≡ suc (most - 1) = omega arith in
      ap (λ (i : ℕ). run_words i s w) l ∙ ap (λ (z : Result Step Refusal). words_by (λ (v : Walk). run_words (most - 1) s v) z) e

  pub stops_end : step_at s w ≡ Ok Step.End → Stopping s most w o 0 o
  stops_end e = record { ends = λ (j : ℕ). turn j (Ok Step.End) e; writes = turn_words (Ok Step.End) e; same = refl }

  pub stops_refused : (r : Refusal) {n : ℕ} → n ≡ number_of r → step_at s w ≡ Err r → Stopping s most w o n o
  stops_refused r q e =
      record {
        ends = λ (j : ℕ). turn j (Err r) e ∙ ap (λ (i : ℕ). run j i w) (sym q);
        writes = turn_words (Err r) e;
        same = refl;
      }

  -- a record of nine words, and the walk behind it
  on : (ws : List ℕ) (v : Walk) {at' : ℕ} {o' : List ℕ} → at' ≡ at + 9 → length ws ≡ 9 → ((j : ℕ) → run_of most j s w ≡ run_of (most - 1) (j + 1) s v)
      → run_words most s w ≡ ws ++ run_words (most - 1) s v → o' ≡ put o at ws → Filling s most at w o v at' 1 o'
  on ws v {at'} {o'} a n e g p =
      record {
        few = omega arith;
        place = omega arith;
        ends = λ (j : ℕ). sym (e j);
        writes =
            ap (λ (z : List ℕ). put z at' (run_words (most - 1) s v)) p
            ∙ ap (λ (i : ℕ). put (put o at ws) i (run_words (most - 1) s v)) (a ∙ ap (λ (i : ℕ). at + i) (sym n))
            ∙ sym (put-append o at ws (run_words (most - 1) s v)) ∙ ap (λ (z : List ℕ). put o at z) (sym g);
        long = ap length p ∙ length-put o at ws;
      }

  pub fills-found : (x : Item) (v : Walk) {at' : ℕ} {o' : List ℕ} → at' ≡ at + 9 → step_at s w ≡ Ok (Step.Found x v) → o' ≡ put o at (item_words x) → Filling s most at w o v at' 1 o'
  fills-found x v a e p = on (item_words x) v a refl (λ (j : ℕ). turn j (Ok (Step.Found x v)) e) (turn_words (Ok (Step.Found x v)) e) p

  pub fills-leads : (x : Branch) (v : Walk) {at' : ℕ} {o' : List ℕ} → at' ≡ at + 9 → step_at s w ≡ Ok (Step.Leads x v) → o' ≡ put o at (branch_words x) → Filling s most at w o v at' 1 o'
  fills-leads x v a e p = on (branch_words x) v a refl (λ (j : ℕ). turn j (Ok (Step.Leads x v)) e) (turn_words (Ok (Step.Leads x v)) e) p

-- ---- the count in front

-- a word stored in front of words, after them or before them
front : (o : List ℕ) (j c i : ℕ) (ws : List ℕ) → j < i → set (put o i ws) j c ≡ put (set o j c) i ws
unfolding put
front o j c i [] h = refl
front o j c i (b ∷ ws) h = front (set o i b) j c (i + 1) ws (omega arith) ∙ ap (λ (z : List ℕ). put z (i + 1) ws) (set_comm o i j b c (λ e. omega (arith, e)))

-- a run counts the records before it
least_by : (more : Walk → Run) (k : ℕ) (w : Walk) → ((v : Walk) → k + 1 ≤ (more v).count) → (x : Result Step Refusal) → k ≤ (run_by more k w x).count
least_by more k w h (Ok (Step.Found x v)) = omega (arith, h v)
least_by more k w h (Ok (Step.Leads x v)) = omega (arith, h v)
least_by more k w h (Ok Step.End) = omega arith
least_by more k w h (Err r) = omega arith

count-least : (n k : ℕ) (s : List ℕ) (w : Walk) → k ≤ (run_of n k s w).count
unfolding run_of
count-least zero k s w = omega arith
count-least (suc n) k s w = least_by (λ (v : Walk). run_of n (k + 1) s v) k w (λ (v : Walk). count-least n (k + 1) s v) (step_at s w)

-- so a run without a record has no words
none_by : (more : Walk → Run) (words : Walk → List ℕ) (w : Walk) → ((v : Walk) → 0 + 1 ≤ (more v).count) → (x : Result Step Refusal) → (run_by more 0 w x).count ≡ 0 → words_by words x ≡ []
none_by more words w h (Ok (Step.Found x v)) e = absurd (omega (arith, h v, e))
none_by more words w h (Ok (Step.Leads x v)) e = absurd (omega (arith, h v, e))
none_by more words w h (Ok Step.End) e = refl
none_by more words w h (Err r) e = refl

pub none : (n : ℕ) (s : List ℕ) (w : Walk) → (run_of n 0 s w).count ≡ 0 → run_words n s w ≡ []
unfolding run_of run_words
none zero s w e = refl
none (suc n) s w e = none_by (λ (v : Walk). run_of n (0 + 1) s v) (λ (v : Walk). run_words n s v) w (λ (v : Walk). count-least n (0 + 1) s v) (step_at s w) e

-- and stays where it is
stay_by : (more : Walk → Run) (w : Walk) → ((v : Walk) → 0 + 1 ≤ (more v).count) → (x : Result Step Refusal) → (run_by more 0 w x).count ≡ 0 → (run_by more 0 w x).walk ≡ w
stay_by more w h (Ok (Step.Found x v)) e = absurd (omega (arith, h v, e))
stay_by more w h (Ok (Step.Leads x v)) e = absurd (omega (arith, h v, e))
stay_by more w h (Ok Step.End) e = refl
stay_by more w h (Err r) e = refl

pub stay : (n : ℕ) (s : List ℕ) (w : Walk) → (run_of n 0 s w).count ≡ 0 → (run_of n 0 s w).walk ≡ w
unfolding run_of
stay zero s w e = refl
stay (suc n) s w e = stay_by (λ (v : Walk). run_of n (0 + 1) s v) w (λ (v : Walk). count-least n (0 + 1) s v) (step_at s w) e

-- the count stored behind the words is what ct_steps says
says_by : (t u : Bool) (c : ℕ) (ws o : List ℕ) → (t ≡ true → ws ≡ [])
    → written (cond t (cond u (0 ∷ []) []) (c ∷ [])) (put o 1 ws) ≡ written (cond t (cond u (0 ∷ []) []) (c ∷ ws)) o
unfolding written
says_by true u c ws o h =
    ap (λ (z : List ℕ). put (put o 1 z) 0 (cond u (0 ∷ []) [])) (h refl) ∙ ap (λ (z : List ℕ). put z 0 (cond u (0 ∷ []) [])) (put_nil o 1)
says_by false u c ws o h = put_one (put o 1 ws) 0 c ∙ front o 0 c 1 ws (omega arith) ∙ sym (put_cons o 0 c ws)

says : (x : Run) (ws o : List ℕ) → (x.count ≡ 0 → ws ≡ []) → written (run_says x []) (put o 1 ws) ≡ written (run_says x ws) o
unfolding run_says
says x ws o h = says_by (eqb x.count 0) (eqb x.number 0) x.count ws o (λ (e : eqb x.count 0 ≡ true). h (eqb-true x.count 0 e))

-- ---- what the call answers and leaves

-- the records of a call end in its slice
pub room_fits : (len : ℕ) {room : ℕ} → room ≡ room_in len → len < 2 ^ 64 → 1 + 9 * room < 2 ^ 64
unfolding room_in
room_fits len {room} e h = omega (arith, e, h, div-add-mod (len - 1) 9)

pub room_within : (len : ℕ) → 1 ≤ len → 1 + 9 * room_in len ≤ len
unfolding room_in
room_within len h = omega (arith, h, div-add-mod (len - 1) 9)

-- number, walk and words of a run, words behind the count not looked at
abbrev Told : Run → List ℕ → List ℕ → List ℕ → ℕ → List ℕ → List ℕ → Type 0
Told x ws walk out r walk' out' = (r ≡ run_number x) × ((walk' ≡ written (run_walk x) walk) × (out' ≡ written (run_says x ws) out))

module _ (x : Run) (walk out : List ℕ) where
  pub told_none : {out' : List ℕ} → x.count ≡ 0 → x.number ≡ 0 → out' ≡ put out 0 (0 ∷ []) → Told x [] walk out x.number walk out'
  unfolding run_number run_walk run_says written
  told_none h n e = rw (eq-eqb x.count 0 h, eq-eqb x.number 0 n) (refl, (sym (put_nil walk 0), e))

  pub told_refused : x.count ≡ 0 → (x.number ≡ 0 → ⊥) → Told x [] walk out x.number walk out
  unfolding run_number run_walk run_says written
  told_refused h n = rw (eq-eqb x.count 0 h, ne_eqb x.number 0 n) (refl, (sym (put_nil walk 0), sym (put_nil out 0)))

  pub told-run : {walk' out' : List ℕ} → (x.count ≡ 0 → ⊥) → out' ≡ put out 0 (x.count ∷ []) → walk' ≡ written (walk_words x.walk) walk → Told x [] walk out 0 walk' out'
  unfolding run_number run_walk run_says written
  told-run h e m = rw (ne_eqb x.count 0 h) (refl, (m, e))

-- the count in front of the words that the loop has stored
pub told-steps : (s walk out : List ℕ) {room n : ℕ} {w v : Walk} {x : Run} {r : ℕ} {walk' o out' : List ℕ} → room ≡ n → w ≡ v
    → x ≡ run_of room 0 s w → o ≡ put out 1 (run_words room s w) → Told x [] walk o r walk' out'
    → Told (run_of n 0 s v) (run_words n s v) walk out r walk' out'
told-steps s walk out {room} {n} {w} {v} {x} {r} {walk'} {o} {out'} en ew e p h =
    let g : x ≡ run_of n 0 s v = e ∙ ap (λ (m : ℕ). run_of m 0 s w) en ∙ ap (λ (z : Walk). run_of n 0 s z) ew in
    let q : o ≡ put out 1 (run_words n s v) = p ∙ ap (λ (m : ℕ). put out 1 (run_words m s w)) en ∙ ap (λ (z : Walk). put out 1 (run_words n s z)) ew in (
      h.0 ∙ ap run_number g,
      (
        h.1.0 ∙ ap (λ (z : Run). written (run_walk z) walk) g,
        h.1.1 ∙ ap (λ (z : Run). written (run_says z []) o) g ∙ ap (λ (z : List ℕ). written (run_says (run_of n 0 s v) []) z) q
            ∙ says (run_of n 0 s v) (run_words n s v) out (none n s v),
      ),
    )
