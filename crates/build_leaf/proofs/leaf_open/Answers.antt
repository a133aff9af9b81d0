-- `build_leaf::leaf_open` meets its contract. Assumes nothing.
use mathlib.Core.Path.{refl, sym, subst}
use Prim.Native.Nat.{ℕ, ◌+◌}
use lib.ListN.{length}
use native.Mathlib.Omega.{arith}
use Rattle.build_leaf.specs.Listed.{Fixes}
use Rattle.build_leaf.proofs.leaf_open.Goals as goal

pub overflow_add-t : goal.overflow_add-t
overflow_add-t c = omega (arith, c.requires.fixes.small.size)

pub overflow_cast-t : goal.overflow_cast-t
overflow_cast-t c = omega (arith, c.requires.fixes.small.size)

pub overflow_add-remote : goal.overflow_add-remote
overflow_add-remote c = omega (arith, c.requires.fixes.end, c.frame_len.ensures, c.well_formed.0)

pub leaf_fixed-k-requires : goal.leaf_fixed-k-requires
leaf_fixed-k-requires c = record {
  fixes = subst (λ (x : ℕ). Fixes (length c.args.a.now) c.args.footing c.args.t c.args.e (c.args.t.leaf + x)) (sym c.frame_len.ensures) c.requires.fixes;
  both_within = c.requires.both_within;
}

pub returns : goal.returns
returns c = record {
  value = rw (c.leaf_fixed-k.ensures.value, c.frame_len.ensures) refl;
  a_after = rw c.frame_len.ensures at c.leaf_fixed-k.ensures.a_after;
}
