-- The laws of a writer with several cursors. One, `drew`, serves every store at any of them.
-- Assumes nothing.
use mathlib.Core.Path.{◌≡◌, refl, sym, ap, ◌∙◌, subst}
use mathlib.Core.List.{List, [], ◌∷◌, ◌++◌}
use Prim.Native.Nat.{ℕ, zero, suc, ◌+◌, ◌≤◌, ◌<◌}
use native.Mathlib.Nat.{le_of_suc-le-suc, not-suc-le-zero}
use native.Mathlib.Omega.{arith}
use lib.ListN.{length, set, length-append}
use Rattle.spans.specs.Span.{put}
use Rattle.spans.proofs.Put.{length-put, put-append, take_put}
use Rattle.build_pen.specs.Stretches.{Stretch, stretch, draws, Rising, Drawing}

-- ---- stores at different places change places

pub set_swap : (a : List ℕ) (i j b c : ℕ) → i < j → set (set a i b) j c ≡ set (set a j c) i b
set_swap [] i j b c h = refl
set_swap (x ∷ a) zero zero b c h = absurd (not-suc-le-zero h)
set_swap (x ∷ a) zero (suc j) b c h = refl
set_swap (x ∷ a) (suc i) zero b c h = absurd (not-suc-le-zero h)
set_swap (x ∷ a) (suc i) (suc j) b c h = ap (λ (r : List ℕ). x ∷ r) (set_swap a i j b c (le_of_suc-le-suc h))

pub set-put : (a : List ℕ) (i : ℕ) (x : List ℕ) (j c : ℕ) → j < i → set (put a i x) j c ≡ put (set a j c) i x
unfolding put
set-put a i [] j c h = refl
set-put a i (b ∷ x) j c h =
    set-put (set a i b) (i + 1) x j c (omega arith) ∙ ap (λ (s : List ℕ). put s (i + 1) x) (sym (set_swap a j i c b h))

pub put_swap : (a : List ℕ) (i : ℕ) (x : List ℕ) (j : ℕ) (y : List ℕ) → i + length x ≤ j → put (put a i x) j y ≡ put (put a j y) i x
unfolding put
put_swap a i [] j y h = refl
put_swap a i (b ∷ x) j y h =
    put_swap (set a i b) (i + 1) x j y (omega arith) ∙ ap (λ (s : List ℕ). put s (i + 1) x) (sym (set-put a j y i b (omega arith)))

-- ---- stretches

pub rising_le : (low : ℕ) (ss : List Stretch) (end : ℕ) → Rising low ss end → low ≤ end
rising_le low [] end h = h
rising_le low (s ∷ ss) end (h, k) = omega (arith, h, rising_le (s.at + length s.rest) ss end k)

pub rising-before : (low : ℕ) (p : List Stretch) (s : Stretch) (q : List Stretch) (end : ℕ) → Rising low (p ++ s ∷ q) end → Rising low p s.at
rising-before low [] s q end (h, k) = h
rising-before low (r ∷ p) s q end (h, k) = (h, rising-before (r.at + length r.rest) p s q end k)

pub rising-from : (low : ℕ) (p : List Stretch) (s : Stretch) (q : List Stretch) (end : ℕ) → Rising low (p ++ s ∷ q) end → s.at + length s.rest ≤ end
rising-from low [] s q end (h, k) = rising_le (s.at + length s.rest) q end k
rising-from low (r ∷ p) s q end (h, k) = rising-from (r.at + length r.rest) p s q end k

-- the front of one of them has been stored: the others do not see it
pub draws-front : (low : ℕ) (a : List ℕ) (p : List Stretch) (at : ℕ) (x y : List ℕ) (q : List Stretch) → Rising low p at
    → draws a (p ++ stretch at (x ++ y) ∷ q) ≡ draws (put a at x) (p ++ stretch (at + length x) y ∷ q)
draws-front low a [] at x y q h = ap (λ (s : List ℕ). draws s q) (put-append a at x y)
draws-front low a (r ∷ p) at x y q (h, k) =
    draws-front (r.at + length r.rest) (put a r.at r.rest) p at x y q k
    ∙ ap (λ (s : List ℕ). draws s (p ++ stretch (at + length x) y ∷ q)) (put_swap a r.at r.rest at x (rising_le (r.at + length r.rest) p at k))

pub rising-front : (low : ℕ) (p : List Stretch) (at : ℕ) (x y : List ℕ) (q : List Stretch) (end : ℕ) → Rising low (p ++ stretch at (x ++ y) ∷ q) end
    → Rising low (p ++ stretch (at + length x) y ∷ q) end
rising-front low [] at x y q end (h, k) =
    (omega (arith, h), subst (λ (n : ℕ). Rising n q end) (omega (arith, length-append x y)) k)
rising-front low (r ∷ p) at x y q end (h, k) = (h, rising-front (r.at + length r.rest) p at x y q end k)

-- two that touch are one: what the stretches of an image are joined by
pub draws_join : (a : List ℕ) (at : ℕ) (x y : List ℕ) (q : List Stretch) → draws a (stretch at x ∷ stretch (at + length x) y ∷ q) ≡ draws a (stretch at (x ++ y) ∷ q)
draws_join a at x y q = ap (λ (s : List ℕ). draws s q) (sym (put-append a at x y))

-- ---- the writer

-- a store at one of the cursors
pub drew : (a₀ : List ℕ) (low : ℕ) (whole a : List ℕ) (p : List Stretch) (at : ℕ) (z x y : List ℕ) (q : List Stretch) (end : ℕ) (a' : List ℕ) (at' : ℕ)
    → Drawing a₀ low whole a (p ++ stretch at z ∷ q) end → z ≡ x ++ y → a' ≡ put a at x → at' ≡ at + length x
    → Drawing a₀ low whole a' (p ++ stretch at' y ∷ q) end
drew a₀ low whole a p at z x y q end a' at' h e f g =
    let k = subst (λ (w : List ℕ). Rising low (p ++ stretch at w ∷ q) end) e h.order in
    let b = rising-before low p (stretch at (x ++ y)) q end k in
    rw (f, g)
    (record {
      goes = sym (draws-front low a p at x y q b) ∙ ap (λ (w : List ℕ). draws a (p ++ stretch at w ∷ q)) (sym e) ∙ h.goes;
      order = rising-front low p at x y q end k;
      room = rw length-put h.room;
      long = length-put a at x ∙ h.long;
      same = take_put low a at x (rising_le low p at b) ∙ h.same;
    })

-- there is room for it
pub drew-room : (a₀ : List ℕ) (low : ℕ) (whole a : List ℕ) (p : List Stretch) (at : ℕ) (z x y : List ℕ) (q : List Stretch) (end : ℕ)
    → Drawing a₀ low whole a (p ++ stretch at z ∷ q) end → z ≡ x ++ y → at + length x ≤ length a
drew-room a₀ low whole a p at z x y q end h e =
    omega (arith, rising-from low p (stretch at z) q end h.order, ap length e, length-append x y, h.room)
