-- `pages::rises` meets its contract. Assumes nothing.
use mathlib.Core.Path.{sym}
use Rattle.pages.proofs.Turns.{rises_by}
use Rattle.pages.proofs.rises.Goals as goal

pub returns-then-p : goal.returns-then-p
returns-then-p c = sym (rises_by c.args.s.now c.args.kind c.args.i c.args.la c.args.ln c.args.ra c.args.rn c.pair_of-p.result c.pair_of-p.ensures c.if-p.true)
