-- Two strings joined: what a comparison and a beginning of them come to.
-- Assumes nothing.
use mathlib.Core.Path.{◌≡◌, refl, sym, ap, ◌∙◌}
use mathlib.Core.List.{List, [], ◌∷◌, ◌++◌}
use mathlib.Core.Bool.{true, false}
use Prim.Native.Nat.{ℕ}
use native.Mathlib.Omega.{arith}
use lib.ListN.{length, drop}
use borrow.Author.Tests.{eq-eqb, ne_eqb}
use Rattle.order.specs.Order.{cmp_bytes, starts_with}
use Rattle.order.proofs.Laws.{case_order, starts_split}
use Rattle.std.specs.declared.cmp.Ordering.{Ordering}

-- keys without a prefix of their own
pub no_front : (p : List ℕ) → length p ≡ 0 → p ≡ []
no_front [] e = refl
no_front (x ∷ p) e = absurd (omega arith)

pub bare : (p r q s : List ℕ) (o : Ordering) → length p ≡ 0 → length q ≡ 0 → o ≡ cmp_bytes r s → o ≡ cmp_bytes (p ++ r) (q ++ s)
bare p r q s o e f h = rw (no_front p e, no_front q f) h

-- ---- beginning

starts_front : (p x y : List ℕ) → starts_with (p ++ x) (p ++ y) ≡ starts_with x y
unfolding starts_with
starts_front [] x y = refl
starts_front (z ∷ p) x y = rw (eq-eqb z z refl) (starts_front p x y)

-- a string that begins with p begins p and r by what is behind p
pub begins_behind : (pre p r : List ℕ) → starts_with p pre ≡ true → starts_with (drop (length p) pre) r ≡ starts_with pre (p ++ r)
begins_behind pre p r h =
    sym (starts_front p (drop (length p) pre) r) ∙ ap (λ (x : List ℕ). starts_with x (p ++ r)) (sym (starts_split p pre h))

-- any other begins them only within p
pub begins_within : (pre p r : List ℕ) → starts_with p pre ≡ false → starts_with pre p ≡ starts_with pre (p ++ r)
unfolding starts_with
begins_within pre [] r h = absurd (let z : ◌≡◌ {A = ℕ} 0 1 = cc in omega arith)
begins_within [] (x ∷ p) r h = refl
begins_within (y ∷ pre) (x ∷ p) r h =
    case_order x y
    (λ l. rw (ne_eqb y x (λ e. omega arith)) refl)
    (λ e. rw (eq-eqb y x (sym e)) (begins_within pre p r (rw (eq-eqb x y e) at h)))
    (λ l. rw (ne_eqb y x (λ e. omega arith)) refl)
