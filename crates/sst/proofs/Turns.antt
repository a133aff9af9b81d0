-- One turn of the halving, by what the comparison says.
-- Assumes nothing.
use Prim.Native.Nat.{ℕ, zero, suc, ◌+◌, ◌-◌, ◌≤◌, ◌<◌}
use mathlib.Core.Path.{◌≡◌, refl}
use native.Mathlib.Omega.{arith}
use borrow.Author.Tests.{lt-ltb, le-ltb}
use Rattle.sst.specs.Halve.{mid, halve}
use Rattle.std.proofs.Common.{Option, Some, None}
use Rattle.sst.specs.declared.Halved.{Halved}
use Rattle.std.specs.declared.cmp.Ordering.{Ordering}

module _ (f : ℕ → Option Ordering) (k lo hi r : ℕ) where
  pub halve-less : lo < hi → f (mid lo hi) ≡ Some Ordering.Less → halve f (suc k) lo hi r ≡ halve f k (mid lo hi + 1) hi (r + 1)
  unfolding halve
  halve-less h e = rw (lt-ltb lo hi h, e, halve)

  pub halve_equal : lo < hi → f (mid lo hi) ≡ Some Ordering.Equal → halve f (suc k) lo hi r ≡ Some (Halved.At (mid lo hi) (r + 1))
  unfolding halve
  halve_equal h e = rw (lt-ltb lo hi h, e, halve)

  pub halve_greater : lo < hi → f (mid lo hi) ≡ Some Ordering.Greater → halve f (suc k) lo hi r ≡ halve f k lo (mid lo hi) (r + 1)
  unfolding halve
  halve_greater h e = rw (lt-ltb lo hi h, e, halve)

  pub halve_refuse : lo < hi → f (mid lo hi) ≡ None → halve f (suc k) lo hi r ≡ None
  unfolding halve
  halve_refuse h e = rw (lt-ltb lo hi h, e, halve)

pub halve-end : (f : ℕ → Option Ordering) (k lo hi r : ℕ) → hi ≤ lo → halve f k lo hi r ≡ Some (Halved.End lo r)
unfolding halve
halve-end f zero lo hi r h = refl
halve-end f (suc k) lo hi r h = rw (le-ltb lo hi h, halve)

-- a turn of the loop, where n is the fuel at the start: as many turns are spent as keys were read
module _ (f : ℕ → Option Ordering) (n lo hi r : ℕ) (h : lo < hi) (w : hi - lo + r ≤ n) where
  spend : n - r ≡ suc (n - (r + 1))
  spend = omega arith

  pub turn_less : f (mid lo hi) ≡ Some Ordering.Less → halve f (n - r) lo hi r ≡ halve f (n - (r + 1)) (mid lo hi + 1) hi (r + 1)
  turn_less e = rw spend (halve-less f (n - (r + 1)) lo hi r h e)

  pub turn_equal : f (mid lo hi) ≡ Some Ordering.Equal → halve f (n - r) lo hi r ≡ Some (Halved.At (mid lo hi) (r + 1))
  turn_equal e = rw spend (halve_equal f (n - (r + 1)) lo hi r h e)

  pub turn_greater : f (mid lo hi) ≡ Some Ordering.Greater → halve f (n - r) lo hi r ≡ halve f (n - (r + 1)) lo (mid lo hi) (r + 1)
  turn_greater e = rw spend (halve_greater f (n - (r + 1)) lo hi r h e)

  pub turn_refuse : f (mid lo hi) ≡ None → halve f (n - r) lo hi r ≡ None
  turn_refuse e = rw spend (halve_refuse f (n - (r + 1)) lo hi r h e)
