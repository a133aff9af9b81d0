-- A store that comes later than those at the stretches behind it: it could as well have come before them.
-- Assumes nothing.
use mathlib.Core.Path.{◌≡◌, refl, sym, ap, ◌∙◌}
use mathlib.Core.List.{List, [], ◌∷◌, ◌++◌}
use Prim.Native.Nat.{ℕ, ◌+◌, ◌≤◌}
use native.Mathlib.Omega.{arith}
use lib.ListN.{length}
use Rattle.spans.specs.Span.{put}
use Rattle.build_pen.specs.Stretches.{Stretch, stretch, draws, Rising}
use Rattle.build_pen.proofs.Drawn.{put_swap}

lower : (low low' : ℕ) (q : List Stretch) (end : ℕ) → low ≤ low' → Rising low' q end → Rising low q end
lower low low' [] end h k = omega (arith, h, k)
lower low low' (r ∷ q) end h (k, n) = (omega (arith, h, k), n)

late : (b : List ℕ) (at : ℕ) (x : List ℕ) (q : List Stretch) (end : ℕ) → Rising (at + length x) q end → put (draws b q) at x ≡ draws (put b at x) q
late b at x [] end h = refl
late b at x (r ∷ q) end (h, k) =
    late (put b r.at r.rest) at x q end (lower (at + length x) (r.at + length r.rest) q end (omega (arith, h)) k)
    ∙ ap (λ (s : List ℕ). draws s q) (sym (put_swap b at x r.at r.rest h))

pub later : (low : ℕ) (a : List ℕ) (p : List Stretch) (at : ℕ) (x : List ℕ) (q : List Stretch) (end : ℕ) → Rising low (p ++ stretch at x ∷ q) end → put (draws a (p ++ q)) at x ≡ draws a (p ++ stretch at x ∷ q)
later low a [] at x q end (h, k) = late a at x q end k
later low a (r ∷ p) at x q end (h, k) = later (r.at + length r.rest) (put a r.at r.rest) p at x q end k
