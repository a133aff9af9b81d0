-- The judge of two index pages' children, which rise and lie between the boundaries: what remains is how many there are, and their sums.
-- Assumes nothing.
use mathlib.Core.Path.{◌≡◌, sym, ap, ap₂, ◌∙◌}
use mathlib.Core.List.{List, ◌++◌}
use mathlib.Core.Bool.{true}
use Prim.Native.Nat.{ℕ, ◌+◌, ◌-◌, ◌≤◌, ◌<◌}
use native.Mathlib.Omega.{arith}
use lib.ListN.{length, length-append}
use Rattle.frames.specs.declared.Body.{Body}
use Rattle.frames.specs.declared.Refusal.TheVariants.{TooBig}
use Rattle.frames.specs.Limits.{max_entries}
use Rattle.build_sources.specs.Source.{Entry}
use Rattle.build_sources.specs.Judged.{rising, enclosed}
use Rattle.build_image.specs.Image.{index_sums}
use Rattle.law_rows.specs.Rows.{index_entries}
use Rattle.build_rows.specs.Judged.{Judged}
use Rattle.build_bounds.specs.declared.Boundaries.{Boundaries}
use Rattle.build_bounds.specs.Boundaries.{boundary_bytes, bounds_of}
use Rattle.build_index.proofs.Penning.{sums_part}
use Rattle.build_index.proofs.Children.{count-is, count-all}
use Rattle.build_table.specs.Index.{Held, index_verdict, index_weighed}
use Rattle.build_table.proofs.Judging.{index_many, index_weighed_lem}
use Rattle.std.proofs.Common.{Result, Err}
use Rattle.frames.specs.declared.Refusal.{Refusal}

module _ (w : List ℕ) (b : Body) (from end : ℕ) (d : Body) (count : ℕ) (gb : Judged w b 1) (gd : Judged w d 1) (up : from ≤ end) (ub : end ≤ b.elems) (ud : count ≤ d.elems) where
  abbrev xs : List Entry
  xs = index_entries w b (end - from) from

  abbrev ys : List Entry
  ys = index_entries w d count 0

  both_long : end - from + count ≡ length (xs ++ ys)
  both_long = sym (length-append xs ys ∙ ap₂ (λ (i j : ℕ). i + j) (count-is w b end from gb up ub) (count-all w d count gd ud))

  module _ (len next : ℕ) (none : List ℕ) (e : Boundaries) (h : Held none none w e) (h6 : rising (index_entries w b (end - from) from ++ index_entries w d count 0) ≡ true)
      (h10 : enclosed (boundary_bytes none w e.lo) (boundary_bytes none w e.hi) (index_entries w b (end - from) from ++ index_entries w d count 0) ≡ true) where
    pub pages-many : max_entries < end - from + count → Err TooBig ≡ index_verdict len next (bounds_of none none w e) e (index_entries w b (end - from) from ++ index_entries w d count 0)
    pages-many q = index_many len next none none w e h (xs ++ ys) h6 h10 (end - from + count) both_long q

    pub pages-weighed : end - from + count ≤ max_entries → (x y : ℕ) → x ≡ index_sums e.prefix (index_entries w b (end - from) from) → y ≡ index_sums e.prefix (index_entries w d (count - 0) 0)
        → (v : Result (ℕ × ℕ) Refusal) → v ≡ index_weighed len next e.lo.len e.hi.len (end - from + count) (x + y)
        → v ≡ index_verdict len next (bounds_of none none w e) e (index_entries w b (end - from) from ++ index_entries w d count 0)
    pages-weighed f x y ex ey v ev =
        let z : count - 0 ≡ count = omega arith in
        let k : x + y ≡ index_sums e.prefix (xs ++ ys) = ap₂ (λ (i j : ℕ). i + j) ex (ey ∙ ap (λ (j : ℕ). index_sums e.prefix (index_entries w d j 0)) z) ∙ sym (sums_part e.prefix xs ys) in
        ev ∙ index_weighed_lem len next none none w e h (xs ++ ys) h6 h10 (end - from + count) both_long f (x + y) k
