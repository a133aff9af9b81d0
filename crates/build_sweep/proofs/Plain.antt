-- A list that is not plain: one thing that does not hold is enough.
-- Assumes nothing.
use mathlib.Core.Path.{◌≡◌, refl}
use mathlib.Core.List.{List, []}
use mathlib.Core.Bool.{Bool, true, false, ◌&&◌}
use Prim.Native.Nat.{ℕ, ◌<◌}
use lib.ListN.{length}
use lib.Dec.{leb}
use borrow.Author.Tests.{lt-leb}
use Rattle.frames.specs.Limits.{max_entries}
use Rattle.build_sources.specs.Lists.{first_of}
use Rattle.build_sources.specs.Source.{well_formed}
use Rattle.build_sources.specs.Judged.{rising}
use Rattle.build_sweep.specs.Swept.{listed, plain}

second_not : (a b c : Bool) → b ≡ false → a && (b && c) ≡ false
second_not true b c e = rw e refl
second_not false b c e = refl

third_not : (a b c : Bool) → c ≡ false → a && (b && c) ≡ false
third_not true true c e = e
third_not true false c e = refl
third_not false b c e = refl

module _ (l : List ℕ) (source : ℕ) where
  pub not_well : well_formed l [] (first_of source) ≡ false → plain l source ≡ false
  unfolding plain
  not_well e = rw e refl

  pub not_rising : rising (listed l source) ≡ false → plain l source ≡ false
  unfolding plain
  not_rising e = second_not (well_formed l [] (first_of source)) (rising (listed l source)) (leb (length (listed l source)) max_entries) e

  pub not_few : max_entries < length (listed l source) → plain l source ≡ false
  unfolding plain
  not_few h = third_not (well_formed l [] (first_of source)) (rising (listed l source)) (leb (length (listed l source)) max_entries) (lt-leb (length (listed l source)) max_entries h)
