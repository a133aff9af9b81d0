-- `delta::placed` meets its contract. Assumes nothing.
use mathlib.Core.Path.{refl}
use Rattle.delta.proofs.Verdict.{placed_none, placed-is}
use Rattle.frames.specs.Layout.{addr}
use Rattle.clerks.specs.Lent.{clerk_of}
use Rattle.delta.proofs.placed.Goals as goal

pub returns-then-t-eq0 : goal.returns-then-t-eq0
returns-then-t-eq0 c = placed_none (clerk_of (addr c.args.next) c.args.limit) c.args.next c.args.limit c.args.remote c.args.len refl refl c.requires.0 c.alloc_from-t.result c.alloc_from-t.ensures c.if-t-eq0.true

pub returns : goal.returns
returns c = placed-is (clerk_of (addr c.args.next) c.args.limit) c.args.next c.args.limit c.args.remote c.args.len refl refl c.requires.0 c.alloc_from-t.result c.alloc_from-t.ensures c.alloc_from-d.result c.if-t-eq0.false c.alloc_from-d.ensures
