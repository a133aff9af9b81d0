-- What is left of n turns after the first i of them: all before the first, at turn i at least one, and behind it one less.
-- Assumes nothing.
use mathlib.Core.Path.{◌≡◌}
use Prim.Native.Nat.{ℕ, ◌+◌, ◌-◌, ◌<◌}
use native.Mathlib.Omega.{arith}

pub all_left : (n : ℕ) → n - 0 ≡ n
all_left n = omega arith

pub some_left : (n i : ℕ) → i < n → 0 < n - i
some_left n i h = omega arith

pub next_left : (n i : ℕ) → n - (i + 1) ≡ n - i - 1
next_left n i = omega arith

pub left_again : (n i : ℕ) → i < n → n - (n - i) ≡ i
left_again n i h = omega arith
