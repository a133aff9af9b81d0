use mathlib.Core.Bool.{Bool, true, false}
use native.Mathlib.Omega.{arith}
use Prim.Native.Nat.{◌≤◌}
use borrow.Author.Tests.{lt-ltb, le-ltb}
use Rattle.values.specs.Vals.{size_of, hist_size}
use Rattle.values.proofs.Val.calc_size.Goals as goal

small : (b : Bool) → hist_size b ≤ 14
small true = omega arith
small false = omega arith

pub overflow_add-result-then-n-limit : goal.overflow_add-result-then-n-limit
overflow_add-result-then-n-limit c = omega (arith, c.hist_size-front.ensures, small c.args.has_hist)

pub returns-then-n-limit : goal.returns-then-n-limit
unfolding size_of
returns-then-n-limit c = simp (lt-ltb _ _ c.if-n-limit.true, c.hist_size-front.ensures)

pub overflow_add-result-2 : goal.overflow_add-result-2
overflow_add-result-2 c = omega (arith, c.hist_size-front.ensures, small c.args.has_hist)

pub returns : goal.returns
unfolding size_of
returns c = simp (le-ltb _ _ c.if-n-limit.false, c.hist_size-front.ensures)
