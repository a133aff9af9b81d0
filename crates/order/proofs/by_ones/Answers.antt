use mathlib.Core.Path.{sym, ◌∙◌}
use native.Mathlib.Omega.{arith}
use Rattle.order.proofs.Words.{byte_differ, byte_same, ended}
use Rattle.order.proofs.by_ones.Goals as goal

pub returns-then-a-i : goal.returns-then-a-i
returns-then-a-i c = c.cmp.ensures ∙ byte_differ c.args.a.now c.args.b.now c.loop-i.i (omega arith) (omega arith) c.if-a-i.true ∙ sym c.loop-i.invariant

pub loop-i-preserved : goal.loop-i-preserved
loop-i-preserved c = c.loop-i.invariant ∙ byte_same c.args.a.now c.args.b.now c.loop-i.i (omega arith) (omega arith) (omega arith) (omega arith)

pub returns : goal.returns
returns c = c.cmp-2.ensures ∙ ended c.args.a.now c.args.b.now c.loop-i.i (omega arith) (omega arith) (omega arith) ∙ sym c.loop-i.invariant
