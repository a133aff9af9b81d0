use Rattle.sst.specs.declared.Ended.{Ended}
use Rattle.std.proofs.Common.{Some, None}
use mathlib.Core.Path.{◌≡◌, sym, ◌∙◌, ap}
use Rattle.frames.proofs.Frames.{open_inside}
use Rattle.sst.specs.Search.{outcome_at}
use Rattle.sst.proofs.Opens.{back_of, outcome_ended, outcome_bad}
use Rattle.sst.proofs.halve_at.Goals as goal

pub returns-in_err-b : goal.returns-in_err-b
returns-in_err-b c = c.from_residual.ensures ∙ sym (outcome_bad c.args.s.now c.args.a c.args.probe.now c.args.w (sym c.open_at.ensures ∙ c.in_err-b.was))

pub ended_in-requires : goal.ended_in-requires
ended_in-requires c = (open_inside c.args.s.now c.args.a c.in_ok-b.b (sym c.open_at.ensures ∙ c.in_ok-b.was)).0

pub returns-in_err-ended : goal.returns-in_err-ended
returns-in_err-ended c = c.from_residual-in_err-ended.ensures ∙ let e : outcome_at c.args.s.now c.args.a c.args.probe.now c.args.w ≡ back_of c.in_ok-b.b None = outcome_ended c.args.s.now c.args.a c.args.probe.now c.args.w c.in_ok-b.b None (sym c.open_at.ensures ∙ c.in_ok-b.was) (sym c.ended_in.ensures ∙ c.in_err-ended.was) in
    sym e

pub returns-in-Empty : goal.returns-in-Empty
returns-in-Empty c = let e : outcome_at c.args.s.now c.args.a c.args.probe.now c.args.w ≡ back_of c.in_ok-b.b (Some Ended.Empty) = outcome_ended c.args.s.now c.args.a c.args.probe.now c.args.w c.in_ok-b.b (Some Ended.Empty) (sym c.open_at.ensures ∙ c.in_ok-b.was) (sym c.ended_in.ensures ∙ c.in_ok-ended.was ∙ ap Some c.in-Empty.is) in
    sym e

pub returns-in-Stands : goal.returns-in-Stands
returns-in-Stands c = let e : outcome_at c.args.s.now c.args.a c.args.probe.now c.args.w ≡ back_of c.in_ok-b.b (Some (Ended.Stands c.in-Stands.h)) = outcome_ended c.args.s.now c.args.a c.args.probe.now c.args.w c.in_ok-b.b (Some (Ended.Stands c.in-Stands.h)) (sym c.open_at.ensures ∙ c.in_ok-b.was) (sym c.ended_in.ensures ∙ c.in_ok-ended.was ∙ ap Some c.in-Stands.is) in
    sym e
