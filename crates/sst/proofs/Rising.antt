-- Keys that rise strictly make a comparison that rises, and so does a lower bound's, which meets no key.
-- Assumes nothing.
use Prim.Native.Nat.{ℕ, ◌<◌}
use mathlib.Core.Path.{◌≡◌, refl, sym, ap, ◌∙◌, subst}
use mathlib.Core.Bool.{Bool, true, false}
use mathlib.Core.List.{List}
use native.Mathlib.Omega.{arith}
use Rattle.order.specs.Order.{cmp_bytes}
use Rattle.order.proofs.Laws.{cmp_trans, cmp_eq, cmp_less, cmp_greater}
use Rattle.sst.specs.Halve.{asked, lowered}
use Rattle.sst.specs.Says.{earlier}
use Rattle.sst.proofs.Halving.{Rises, Finds}
use Rattle.std.proofs.Common.{Option, Some, None}
use Rattle.sst.specs.declared.Halved.{Halved}
use Rattle.std.specs.declared.cmp.Ordering.{Ordering}

-- what is asked of two byte strings tells their order
pub asked-less : (o : Ordering) → asked o ≡ Some Ordering.Less → o ≡ Ordering.Less
asked-less Ordering.Less e = refl
asked-less Ordering.Equal e = absurd (let z : ◌≡◌ {A = ℕ} 0 1 = cc in omega arith)
asked-less Ordering.Greater e = absurd (let z : ◌≡◌ {A = ℕ} 0 1 = cc in omega arith)

pub asked_equal : (o : Ordering) → asked o ≡ Some Ordering.Equal → o ≡ Ordering.Equal
asked_equal Ordering.Less e = absurd (let z : ◌≡◌ {A = ℕ} 0 1 = cc in omega arith)
asked_equal Ordering.Equal e = refl
asked_equal Ordering.Greater e = absurd (let z : ◌≡◌ {A = ℕ} 0 1 = cc in omega arith)

pub asked_greater : (o : Ordering) → asked o ≡ Some Ordering.Greater → o ≡ Ordering.Greater
asked_greater Ordering.Less e = absurd (let z : ◌≡◌ {A = ℕ} 0 1 = cc in omega arith)
asked_greater Ordering.Equal e = absurd (let z : ◌≡◌ {A = ℕ} 0 1 = cc in omega arith)
asked_greater Ordering.Greater e = refl

asked-answers : (o : Ordering) → asked o ≡ None → ⊥
asked-answers Ordering.Less e = let z : ◌≡◌ {A = ℕ} 0 1 = cc in omega arith
asked-answers Ordering.Equal e = let z : ◌≡◌ {A = ℕ} 0 1 = cc in omega arith
asked-answers Ordering.Greater e = let z : ◌≡◌ {A = ℕ} 0 1 = cc in omega arith

-- a lower bound's comparison tells which comes first
pub lowered-less : (t : Bool) (o : Ordering) → lowered t (asked o) ≡ Some Ordering.Less → earlier t o ≡ true
lowered-less t Ordering.Less e = refl
lowered-less true Ordering.Equal e = refl
lowered-less false Ordering.Equal e = absurd (let z : ◌≡◌ {A = ℕ} 0 1 = cc in omega arith)
lowered-less t Ordering.Greater e = absurd (let z : ◌≡◌ {A = ℕ} 0 1 = cc in omega arith)

pub lowered_greater : (t : Bool) (o : Ordering) → lowered t (asked o) ≡ Some Ordering.Greater → earlier t o ≡ false
lowered_greater t Ordering.Less e = absurd (let z : ◌≡◌ {A = ℕ} 0 1 = cc in omega arith)
lowered_greater true Ordering.Equal e = absurd (let z : ◌≡◌ {A = ℕ} 0 1 = cc in omega arith)
lowered_greater false Ordering.Equal e = refl
lowered_greater t Ordering.Greater e = refl

pub lowered_equal : (t : Bool) (c : Option Ordering) → lowered t c ≡ Some Ordering.Equal → ⊥
lowered_equal t (Some Ordering.Less) e = let z : ◌≡◌ {A = ℕ} 0 1 = cc in omega arith
lowered_equal true (Some Ordering.Equal) e = let z : ◌≡◌ {A = ℕ} 0 1 = cc in omega arith
lowered_equal false (Some Ordering.Equal) e = let z : ◌≡◌ {A = ℕ} 0 1 = cc in omega arith
lowered_equal t (Some Ordering.Greater) e = let z : ◌≡◌ {A = ℕ} 0 1 = cc in omega arith
lowered_equal t None e = let z : ◌≡◌ {A = ℕ} 0 1 = cc in omega arith

-- n keys that rise strictly
abbrev pub Sorted : (ℕ → List ℕ) → ℕ → Type 0
Sorted key n = (i j : ℕ) → i < j → j < n → cmp_bytes (key i) (key j) ≡ Ordering.Less

abbrev pub against : (ℕ → List ℕ) → List ℕ → ℕ → Option Ordering
against key probe i = asked (cmp_bytes (key i) probe)

pub sorted_rises : (key : ℕ → List ℕ) (n : ℕ) (probe : List ℕ) → Sorted key n → Rises (against key probe) n
sorted_rises key n probe o =
    record {
      less-below = λ i j l m e. ap asked (cmp_trans (key i) (key j) probe (o i j l m) (asked-less _ e));
      equal_above =
          λ i j l m e.
          ap asked (subst (λ (k : List ℕ). cmp_bytes (key j) k ≡ Ordering.Greater) (cmp_eq (key i) probe (asked_equal _ e)) (cmp_less (key i) (key j) (o i j l m)));
      greater_above =
          λ i j l m e.
          ap asked (cmp_less probe (key j) (cmp_trans probe (key i) (key j) (cmp_greater (key i) probe (asked_greater _ e)) (o i j l m)));
      answers = λ i l e. asked-answers (cmp_bytes (key i) probe) e;
    }

-- a comparison that meets no key rises too, whatever it says of versions
module _ (f : ℕ → Option Ordering) (v : ℕ → Bool) (n : ℕ) (u : Rises f n) where
  not_above : (i j : ℕ) → i < j → j < n → (f j ≡ Some Ordering.Greater → ⊥) → f i ≡ Some Ordering.Less
  not_above i j l m h = by (f i) refl
    where
      by : (c : Option Ordering) → f i ≡ c → f i ≡ Some Ordering.Less
      by (Some Ordering.Less) q = q
      by (Some Ordering.Equal) q = absurd (h (u.equal_above i j l m q))
      by (Some Ordering.Greater) q = absurd (h (u.greater_above i j l m q))
      by None q = absurd (u.answers i (omega arith) q)

  low-less : (t : Bool) (c : Option Ordering) → lowered t c ≡ Some Ordering.Less → c ≡ Some Ordering.Greater → ⊥
  low-less t (Some Ordering.Less) e q = let z : ◌≡◌ {A = ℕ} 0 1 = cc in omega arith
  low-less t (Some Ordering.Equal) e q = let z : ◌≡◌ {A = ℕ} 0 1 = cc in omega arith
  low-less t (Some Ordering.Greater) e q = let z : ◌≡◌ {A = ℕ} 0 1 = cc in omega arith
  low-less t None e q = let z : ◌≡◌ {A = ℕ} 0 1 = cc in omega arith

  low-above : (i j : ℕ) → i < j → j < n → (t : Bool) (c : Option Ordering) → f i ≡ c → lowered t c ≡ Some Ordering.Greater → f j ≡ Some Ordering.Greater
  low-above i j l m t (Some Ordering.Less) q e = absurd (let z : ◌≡◌ {A = ℕ} 0 1 = cc in omega arith)
  low-above i j l m t (Some Ordering.Equal) q e = u.equal_above i j l m q
  low-above i j l m t (Some Ordering.Greater) q e = u.greater_above i j l m q
  low-above i j l m t None q e = absurd (let z : ◌≡◌ {A = ℕ} 0 1 = cc in omega arith)

  low_refuse : (t : Bool) (c : Option Ordering) → lowered t c ≡ None → c ≡ None
  low_refuse t (Some Ordering.Less) e = absurd (let z : ◌≡◌ {A = ℕ} 0 1 = cc in omega arith)
  low_refuse true (Some Ordering.Equal) e = absurd (let z : ◌≡◌ {A = ℕ} 0 1 = cc in omega arith)
  low_refuse false (Some Ordering.Equal) e = absurd (let z : ◌≡◌ {A = ℕ} 0 1 = cc in omega arith)
  low_refuse t (Some Ordering.Greater) e = absurd (let z : ◌≡◌ {A = ℕ} 0 1 = cc in omega arith)
  low_refuse t None e = refl

  pub lower_rises : Rises (λ (i : ℕ). lowered (v i) (f i)) n
  lower_rises =
      record {
        less-below = λ i j l m e. ap (lowered (v i)) (not_above i j l m (low-less (v j) (f j) e));
        equal_above = λ i j l m e. absurd (lowered_equal (v i) (f i) e);
        greater_above = λ i j l m e. ap (lowered (v j)) (low-above i j l m (v i) (f i) refl e);
        answers = λ i l e. u.answers i l (low_refuse (v i) (f i) e);
      }

-- a comparison that says the same as another
module _ (f g : ℕ → Option Ordering) (n : ℕ) (e : (i : ℕ) → i < n → f i ≡ g i) where
  pub rises-same : Rises g n → Rises f n
  rises-same u =
      record {
        less-below = λ i j l m q. e i (omega arith) ∙ u.less-below i j l m (sym (e j m) ∙ q);
        equal_above = λ i j l m q. e j m ∙ u.equal_above i j l m (sym (e i (omega arith)) ∙ q);
        greater_above = λ i j l m q. e j m ∙ u.greater_above i j l m (sym (e i (omega arith)) ∙ q);
        answers = λ i l q. u.answers i l (sym (e i l) ∙ q);
      }

  pub finds_same : (x : Option Halved) → Finds f n x → Finds g n x
  finds_same (Some (Halved.At i r)) w = (w.0, sym (e i w.0) ∙ w.1)
  finds_same (Some (Halved.End p r)) w = (w.0, (λ i l. sym (e i (omega (arith, w.0))) ∙ w.1 i l), (λ i l m. sym (e i m) ∙ w.2 i l m))
  finds_same None w = w
