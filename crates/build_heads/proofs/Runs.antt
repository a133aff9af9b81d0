-- Counting the old versions in front: what is counted and what is to come.
-- Assumes nothing.
use mathlib.Core.Path.{◌≡◌, refl, sym, ap, ◌∙◌}
use mathlib.Core.List.{List, [], ◌∷◌}
use mathlib.Core.Bool.{Bool, true, false}
use Prim.Native.Nat.{ℕ, suc, ◌+◌, ◌≤◌, ◌<◌}
use native.Mathlib.Omega.{arith}
use Rattle.build_sources.specs.declared.Cursor.{Cursor}
use Rattle.build_sources.specs.declared.EntryAt.{EntryAt}
use Rattle.build_sources.specs.Source.{Entry, entry_of, entries, left_of}
use Rattle.build_sources.proofs.Sourced.{Found}
use Rattle.build_image.specs.Sizes.{old_run}

pub record Running (l w : List ℕ) (c₀ c : Cursor) (n : ℕ) : Type 0 where
  pub goes : n + old_run (entries l w c) ≡ old_run (entries l w c₀)
  pub left : n + left_of l w c ≤ left_of l w c₀

module _ (l w : List ℕ) (c₀ c : Cursor) (n : ℕ) (h : Running l w c₀ c n) where
  run_nil : entries l w c ≡ [] → old_run (entries l w c) ≡ 0
  unfolding old_run
  run_nil e = rw e refl

  pub run_end : entries l w c ≡ [] → n ≡ old_run (entries l w c₀)
  run_end e = omega (arith, h.goes, run_nil e)

  module _ (i : EntryAt) (d : Cursor) (f : Found l w c i d) where
    run_head : i.old ≡ false → old_run (entries l w c) ≡ 0
    unfolding old_run entry_of
    run_head e = rw (f.list, e) refl

    run-old : i.old ≡ true → old_run (entries l w c) ≡ suc (old_run (entries l w d))
    unfolding old_run entry_of
    run-old e = rw (f.list, e) refl

    pub run_stop : i.old ≡ false → n ≡ old_run (entries l w c₀)
    run_stop e = omega (arith, h.goes, run_head e)

    pub run_turn : i.old ≡ true → Running l w c₀ d (n + 1)
    run_turn e = record { goes = omega (arith, h.goes, run-old e); left = omega (arith, h.left, f.falls) }
