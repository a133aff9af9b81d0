-- The common bytes of two boundaries begin both, and every key between them: 7 follows from 10's rule.
-- Assumes nothing.
use mathlib.Core.Path.{◌≡◌, refl, ap, ◌∙◌}
use mathlib.Core.List.{List, [], ◌∷◌, map}
use mathlib.Core.Bool.{Bool, true, false, not, cond}
use Prim.Native.Nat.{ℕ, suc, ◌≤◌}
use native.Mathlib.Omega.{arith}
use lib.Dec.{eqb}
use lib.ListN.{length, take}
use borrow.Author.Tests.{eq-eqb}
use Rattle.order.specs.Order.{cmp_bytes, is_less, starts_with}
use Rattle.order.specs.Bounds.{below_hi, in_bounds, all_in_bounds, bounded}
use Rattle.order.proofs.Bounds.{both_first, both_second, below_less, between-starts}
use Rattle.build_sources.specs.Source.{Entry}
use Rattle.build_sources.specs.Judged.{prefixed, enclosed}
use Rattle.build_image.specs.Prefix.{common}

pub common-footing : (lo hi : List ℕ) → common lo hi ≤ length lo
unfolding common
common-footing [] hi = omega arith
common-footing (x ∷ lo) [] = omega arith
common-footing (x ∷ lo) (y ∷ hi) = by (eqb x y) (common-footing lo hi)
  where
    by : (b : Bool) → common lo hi ≤ length lo → cond b (suc (common lo hi)) 0 ≤ suc (length lo)
    by true h = omega arith
    by false h = omega arith

-- ---- they begin both

begins-lo : (lo hi : List ℕ) → starts_with (take (common lo hi) lo) lo ≡ true
unfolding common starts_with
begins-lo [] hi = refl
begins-lo (x ∷ lo) [] = refl
begins-lo (x ∷ lo) (y ∷ hi) = by (eqb x y) (begins-lo lo hi)
  where
    by : (b : Bool) → starts_with (take (common lo hi) lo) lo ≡ true → starts_with (take (cond b (suc (common lo hi)) 0) (x ∷ lo)) (x ∷ lo) ≡ true
    by true h = ap (λ (t : Bool). cond t (starts_with (take (common lo hi) lo) lo) false) (eq-eqb x x refl) ∙ h
    by false h = refl

begins-hi : (lo hi : List ℕ) → starts_with (take (common lo hi) lo) hi ≡ true
unfolding common starts_with
begins-hi [] hi = refl
begins-hi (x ∷ lo) [] = refl
begins-hi (x ∷ lo) (y ∷ hi) = by (eqb x y) refl (begins-hi lo hi)
  where
    by : (b : Bool) → eqb x y ≡ b → starts_with (take (common lo hi) lo) hi ≡ true → starts_with (take (cond b (suc (common lo hi)) 0) (x ∷ lo)) (y ∷ hi) ≡ true
    by true q h = ap (λ (t : Bool). cond t (starts_with (take (common lo hi) lo) hi) false) q ∙ h
    by false q h = refl

-- ---- and every key between them

key-begins : (lo hi k : List ℕ) → in_bounds lo hi k ≡ true → starts_with (take (common lo hi) lo) k ≡ true
unfolding common starts_with
key-begins [] [] k e = refl
key-begins (x ∷ lo) [] k e = refl
key-begins [] (y ∷ hi) k e = refl
key-begins (x ∷ lo) (y ∷ hi) k e =
    between-starts (take (common (x ∷ lo) (y ∷ hi)) (x ∷ lo)) (x ∷ lo) (y ∷ hi) k (begins-lo (x ∷ lo) (y ∷ hi)) (begins-hi (x ∷ lo) (y ∷ hi))
    (both_first (not (is_less (cmp_bytes k (x ∷ lo)))) (below_hi k (y ∷ hi)) e)
    (below_less k y hi (both_second (not (is_less (cmp_bytes k (x ∷ lo)))) (below_hi k (y ∷ hi)) e))

all_begin : (lo hi : List ℕ) (es : List Entry) → all_in_bounds lo hi (map (λ (e : Entry). e.key) es) ≡ true → prefixed (take (common lo hi) lo) es ≡ true
unfolding all_in_bounds prefixed
all_begin lo hi [] h = refl
all_begin lo hi (e ∷ es) h =
    let k = key-begins lo hi e.key (both_first (in_bounds lo hi e.key) (all_in_bounds lo hi (map (λ (x : Entry). x.key) es)) h) in
    ap (λ (t : Bool). cond t (prefixed (take (common lo hi) lo) es) false) k
    ∙ all_begin lo hi es (both_second (in_bounds lo hi e.key) (all_in_bounds lo hi (map (λ (x : Entry). x.key) es)) h)

-- THE LAW: entries that the boundaries enclose begin with the page's prefix
pub enclosed-prefixed : (lo hi : List ℕ) (es : List Entry) → enclosed lo hi es ≡ true → prefixed (take (common lo hi) lo) es ≡ true
unfolding bounded
enclosed-prefixed lo hi es h = all_begin lo hi es (both_second (below_hi lo hi) (all_in_bounds lo hi (map (λ (e : Entry). e.key) es)) h)
