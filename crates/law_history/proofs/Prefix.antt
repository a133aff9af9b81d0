-- Keys that begin with the page's prefix: each is the prefix and its rest.
-- Assumes nothing.
use Prim.Native.Nat.{ℕ, ◌+◌, ◌-◌}
use mathlib.Core.Path.{◌≡◌, sym, ap}
use mathlib.Core.Bool.{true}
use mathlib.Core.List.{List, ◌∷◌, ◌++◌}
use native.Mathlib.Omega.{arith}
use lib.ListN.{length, drop, length-append}
use Rattle.order.specs.Order.{starts_with}
use Rattle.order.proofs.Laws.{starts_split}
use Rattle.build_sources.specs.Source.{Entry}
use Rattle.build_sources.specs.Judged.{prefixed}
use Rattle.pages.proofs.Given.{yes}

pub record Split (p : ℕ) (pre key : List ℕ) : Type 0 where
  pub joins : pre ++ drop p key ≡ key
  pub long : p + length (drop p key) ≡ length key

pub split : (p : ℕ) (pre key : List ℕ) → length pre ≡ p → starts_with pre key ≡ true → Split p pre key
split p pre key n h =
    let e : pre ++ drop p key ≡ key = rw (← n) (sym (starts_split pre key h)) in
    record { joins = e; long = omega (arith, length-append pre (drop p key), ap length e) }

pub prefixed-first : (pre : List ℕ) (e : Entry) (es : List Entry) → prefixed pre (e ∷ es) ≡ true → (starts_with pre e.key ≡ true) × (prefixed pre es ≡ true)
unfolding prefixed
prefixed-first pre e es h = yes (starts_with pre e.key) (prefixed pre es) h
