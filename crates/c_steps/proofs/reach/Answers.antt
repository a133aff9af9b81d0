-- `c_steps::reach` meets its contract. Assumes nothing.
use mathlib.Core.Path.{sym, ◌∙◌}
use Rattle.walks.proofs.Steps.{enter_none}
use Rattle.c_steps.proofs.Ways.{known_at, enter_known, known-entered}
use Rattle.c_steps.proofs.reach.Goals as goal

pub returns-then-h-eq0 : goal.returns-then-h-eq0
returns-then-h-eq0 c = (enter_none c.args.s.now c.args.h c.args.was c.if-h-eq0.true, c.requires)

pub returns-then-slot-was : goal.returns-then-slot-was
returns-then-slot-was c = (enter_known c.args.s.now c.args.h c.args.was c.args.known c.requires c.if-h-eq0.false c.if-known-ne0.true c.if-h-known.true c.if-slot-was.true, known_at c.args.s.now c.args.known c.args.was c.args.h.slot c.args.h.count c.requires)

pub returns : goal.returns
returns c = (let e = sym c.enter.ensures ∙ c.in_ok-older.was in (e, known-entered c.args.s.now c.args.h c.args.was c.in_ok-older.older c.if-h-eq0.false e))
