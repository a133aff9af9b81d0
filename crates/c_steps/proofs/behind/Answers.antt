-- `c_steps::behind` meets its contract. Assumes nothing.
use Rattle.walks.specs.declared.OldPlace.{OldPlace}
use Rattle.std.proofs.Common.{Option, Some, ℕ}
use native.Mathlib.Omega.{arith}
use mathlib.Core.Path.{subst}
use Rattle.c_steps.specs.Turns.{Reaches}
use Rattle.walks.specs.Walk.{on_of, moved_of}
use Rattle.c_steps.proofs.behind.Goals as goal

pub reach-requires : goal.reach-requires
reach-requires c = c.requires.known_older

pub onward-requires : goal.onward-requires
onward-requires c = omega (arith, c.requires.ahead.below, c.well_formed)

pub overflow_sub-result : goal.overflow_sub-result
overflow_sub-result c = omega (arith, c.requires.ahead.some)

pub returns : goal.returns
unfolding moved_of on_of
returns c = (let q : Reaches c.args.s.now c.args.r.hist c.args.w.older (Some (c.in-Some.older, c.in-Some.seen)) = subst (λ (z : Option (OldPlace × ℕ)). Reaches c.args.s.now c.args.r.hist c.args.w.older z) c.in-Some.is c.reach.ensures in
    (rw c.onward.ensures (c.requires.ahead.steps c.in-Some.older q.0), (q.1, c.requires.ahead.ver)))
