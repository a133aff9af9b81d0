use native.Mathlib.Omega.{arith}
use mathlib.Core.Path.{◌≡◌, ◌∙◌}
use Rattle.base.proofs.Common.{ends, differ, equal}
use Rattle.base.proofs.calc_prefix.Goals as goal

pub loop-k-init : goal.loop-k-init
loop-k-init c = record { in_a = omega arith; in_b = omega arith; goes = omega arith }

pub returns-then-lo-k : goal.returns-then-lo-k
returns-then-lo-k c = differ _ _ _ c.loop-k.invariant (omega arith) (omega arith) c.if-lo-k.true

pub loop-k-preserved : goal.loop-k-preserved
loop-k-preserved c = equal _ _ _ c.loop-k.invariant (omega arith) (omega arith) c.if-lo-k.false

pub returns : goal.returns
returns c = let e : c.min-n.result ≡ c.loop-k.k = omega arith in e ∙ ends _ _ _ c.loop-k.invariant (omega arith)
