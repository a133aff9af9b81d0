-- The table of refusals read in both directions: the first row that does not hold refuses, and only that one.
-- Assumes nothing.
use mathlib.Core.Path.{◌≡◌, refl, ap, ◌∙◌}
use mathlib.Core.List.{List, [], ◌∷◌}
use mathlib.Core.Bool.{Bool, true, false, cond}
use Rattle.frames.specs.declared.Refusal.{Refusal}
use Rattle.build_image.specs.Table.{Row, judged}

-- every row holds
abbrev pub All : List Row → Type 0
All [] = Unit {0}
All (r ∷ rs) = (r.holds ≡ true) × All rs

pub all_go : {X : Type 0} (rs : List Row) (stop : Refusal → X) (go : X) → All rs → judged rs stop go ≡ go
all_go [] stop go h = refl
all_go (r ∷ rs) stop go h = ap (λ (b : Bool). cond b (judged rs stop go) (stop r.else)) h.0 ∙ all_go rs stop go h.1

-- answers that tell a refusal from what fits
module _ {Y : Type 0} (no' : Refusal → Y) (fit : Y) where
  by_no : {X : Type 0} (b : Bool) (x s : Refusal) (v : Y) (u stopped : X) (stop : Refusal → X) → ((r q : Refusal) → no' r ≡ no' q → r ≡ q)
      → (v ≡ no' s → u ≡ stop s) → cond b v (no' x) ≡ no' s → cond b u (stop x) ≡ stop s
  by_no true x s v u stopped stop inj ih e = ih e
  by_no false x s v u stopped stop inj ih e = ap stop (inj x s e)

  -- what one such answer refuses with, every other does
  pub refuses : {X : Type 0} → ((r : Refusal) → fit ≡ no' r → ⊥) → ((r q : Refusal) → no' r ≡ no' q → r ≡ q) → (rs : List Row) (r : Refusal) (stop : Refusal → X) (go : X)
      → judged rs no' fit ≡ no' r → judged rs stop go ≡ stop r
  refuses apart inj [] r stop go e = absurd (apart r e)
  refuses apart inj (x ∷ rs) r stop go e = by_no x.holds x.else r (judged rs no' fit) (judged rs stop go) go stop inj (refuses apart inj rs r stop go) e

  by_yes : (b : Bool) (x : Refusal) (u v : Y) → ((r : Refusal) → no' r ≡ v → ⊥) → cond b u (no' x) ≡ v → (b ≡ true) × (u ≡ v)
  by_yes true x u v n e = (refl, e)
  by_yes false x u v n e = absurd (n x e)

  -- where it is no refusal every row holds
  pub passes : (rs : List Row) (v : Y) → ((r : Refusal) → no' r ≡ v → ⊥) → judged rs no' fit ≡ v → (fit ≡ v) × All rs
  passes [] v n e = (e, tt)
  passes (x ∷ rs) v n e =
      let h = by_yes x.holds x.else (judged rs no' fit) v n e in
      let q = passes rs v n h.1 in
      (q.0, (h.0, q.1))
