use Prim.Native.Nat.{◌+◌}
use mathlib.Core.Path.{refl, sym, ◌∙◌}
use native.Mathlib.Omega.{arith}
use lib.ListN.{length-set}
use Rattle.spans.proofs.Put.{put_turn, put_begin, put-end}
use Rattle.spans.proofs.copy.Goals as goal

pub loop-j-init : goal.loop-j-init
loop-j-init c = (refl, put_begin c.args.dst.now c.args.at c.args.src.now)

pub loop-j-preserved : goal.loop-j-preserved
loop-j-preserved c = (simp length-set (omega arith), put_turn c.loop-j.dst c.args.at c.args.src.now c.loop-j.j _ (omega arith) refl ∙ c.loop-j.invariant.1)

pub returns : goal.returns
returns c = sym (put-end c.loop-j.dst (c.args.at + c.loop-j.j) c.args.src.now c.loop-j.j (omega arith)) ∙ c.loop-j.invariant.1
