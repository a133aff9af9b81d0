use Rattle.sst.specs.declared.Ended.{Ended}
use Rattle.std.proofs.Common.{Some, None}
use mathlib.Core.Path.{◌≡◌, sym, ap, ◌∙◌}
use Rattle.frames.proofs.Frames.{open_inside}
use Rattle.sst.specs.Search.{outcome_at, lower_at, bound, lower_of}
use Rattle.sst.proofs.Opens.{back_of, outcome_ended, outcome_bad}
use Rattle.sst.proofs.lower_bound.Goals as goal

pub returns-in_default : goal.returns-in_default
unfolding lower_at
returns-in_default c = ap lower_of (sym (outcome_bad c.args.s.now c.args.a c.args.probe.now (bound c.args.v) (sym c.open_at.ensures ∙ c.in_default.is)))

pub ended_in-requires : goal.ended_in-requires
ended_in-requires c = (open_inside c.args.s.now c.args.a c.in-Some.b (sym c.open_at.ensures ∙ c.in-Some.is)).0

pub returns-in_default-ended_in : goal.returns-in_default-ended_in
unfolding lower_at
returns-in_default-ended_in c = let e : outcome_at c.args.s.now c.args.a c.args.probe.now (bound c.args.v) ≡ back_of c.in-Some.b None = outcome_ended c.args.s.now c.args.a c.args.probe.now (bound c.args.v) c.in-Some.b None (sym c.open_at.ensures ∙ c.in-Some.is) (sym c.ended_in.ensures ∙ c.in_default-ended_in.is) in
    ap lower_of (sym e)

pub returns-in-Empty : goal.returns-in-Empty
unfolding lower_at
returns-in-Empty c = let e : outcome_at c.args.s.now c.args.a c.args.probe.now (bound c.args.v) ≡ back_of c.in-Some.b (Some Ended.Empty) = outcome_ended c.args.s.now c.args.a c.args.probe.now (bound c.args.v) c.in-Some.b (Some Ended.Empty) (sym c.open_at.ensures ∙ c.in-Some.is) (sym c.ended_in.ensures ∙ c.in-Some-ended_in.is ∙ ap Some c.in-Empty.is) in
    ap lower_of (sym e)

pub returns-in-Stands : goal.returns-in-Stands
unfolding lower_at
returns-in-Stands c = let e : outcome_at c.args.s.now c.args.a c.args.probe.now (bound c.args.v) ≡ back_of c.in-Some.b (Some (Ended.Stands c.in-Stands.h)) = outcome_ended c.args.s.now c.args.a c.args.probe.now (bound c.args.v) c.in-Some.b (Some (Ended.Stands c.in-Stands.h)) (sym c.open_at.ensures ∙ c.in-Some.is) (sym c.ended_in.ensures ∙ c.in-Some-ended_in.is ∙ ap Some c.in-Stands.is) in
    c.bound_in.ensures ∙ ap lower_of (sym e)
