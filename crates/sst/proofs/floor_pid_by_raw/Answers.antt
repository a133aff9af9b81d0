use Rattle.sst.specs.declared.Outcome.{Outcome}
use Rattle.sst.specs.declared.Ended.{Ended}
use Rattle.std.proofs.Common.{Some, None}
use mathlib.Core.Bool.{true, false}
use mathlib.Core.Path.{◌≡◌, sym, ap, ◌∙◌}
use Rattle.frames.proofs.Frames.{open_inside}
use Rattle.sst.specs.Search.{ended_in, outcome_at, floor_at, indexes, floor_of}
use Rattle.sst.proofs.Opens.{wants, end_of_lem, back_of, outcome_ended, outcome_bad, outcome_ready, index_kind}
use Rattle.sst.proofs.floor_pid_by_raw.Goals as goal

pub returns-in_default : goal.returns-in_default
unfolding floor_at
returns-in_default c = ap (floor_of c.args.s.now) (sym (outcome_bad c.args.s.now c.args.a c.args.probe.now indexes (sym c.open_at.ensures ∙ c.in_default.is)))

pub ended_in-requires : goal.ended_in-requires
ended_in-requires c = (open_inside c.args.s.now c.args.a c.in-Some.b (sym c.open_at.ensures ∙ c.in-Some.is)).0

pub floor_in-requires : goal.floor_in-requires
floor_in-requires c = let q : ended_in c.args.s.now c.in-Some.b c.args.probe.now indexes ≡ Some (Ended.Stands c.in-Stands.h) = end_of_lem c.args.s.now c.in-Some.b c.args.probe.now indexes (wants false true c.new.result) c.ended_in.result (Some (Ended.Stands c.in-Stands.h)) (ap (wants false true) c.new.ensures) c.ended_in.ensures (c.in-Some-ended_in.is ∙ ap Some c.in-Stands.is) in
    let e : outcome_at c.args.s.now c.args.a c.args.probe.now indexes ≡ Some (Outcome.Stands c.in-Some.b c.in-Stands.h) = outcome_ended c.args.s.now c.args.a c.args.probe.now indexes c.in-Some.b (Some (Ended.Stands c.in-Stands.h)) (sym c.open_at.ensures ∙ c.in-Some.is) q in
    let k = (outcome_ready c.args.s.now c.args.a c.args.probe.now indexes c.in-Some.b c.in-Stands.h e).0 in
    record {
      inside = k.inside;
      kind_value = index_kind c.in-Some.b.kind k.right;
    }

pub returns-in_default-ended_in : goal.returns-in_default-ended_in
unfolding floor_at
returns-in_default-ended_in c = let q : ended_in c.args.s.now c.in-Some.b c.args.probe.now indexes ≡ None = end_of_lem c.args.s.now c.in-Some.b c.args.probe.now indexes (wants false true c.new.result) c.ended_in.result None (ap (wants false true) c.new.ensures) c.ended_in.ensures c.in_default-ended_in.is in
    let e : outcome_at c.args.s.now c.args.a c.args.probe.now indexes ≡ back_of c.in-Some.b None = outcome_ended c.args.s.now c.args.a c.args.probe.now indexes c.in-Some.b None (sym c.open_at.ensures ∙ c.in-Some.is) q in
    ap (floor_of c.args.s.now) (sym e)

pub returns-in-Empty : goal.returns-in-Empty
unfolding floor_at
returns-in-Empty c = let q : ended_in c.args.s.now c.in-Some.b c.args.probe.now indexes ≡ (Some Ended.Empty) = end_of_lem c.args.s.now c.in-Some.b c.args.probe.now indexes (wants false true c.new.result) c.ended_in.result (Some Ended.Empty) (ap (wants false true) c.new.ensures) c.ended_in.ensures (c.in-Some-ended_in.is ∙ ap Some c.in-Empty.is) in
    let e : outcome_at c.args.s.now c.args.a c.args.probe.now indexes ≡ back_of c.in-Some.b (Some Ended.Empty) = outcome_ended c.args.s.now c.args.a c.args.probe.now indexes c.in-Some.b (Some Ended.Empty) (sym c.open_at.ensures ∙ c.in-Some.is) q in
    ap (floor_of c.args.s.now) (sym e)

pub returns-in-Stands : goal.returns-in-Stands
unfolding floor_at
returns-in-Stands c = let q : ended_in c.args.s.now c.in-Some.b c.args.probe.now indexes ≡ Some (Ended.Stands c.in-Stands.h) = end_of_lem c.args.s.now c.in-Some.b c.args.probe.now indexes (wants false true c.new.result) c.ended_in.result (Some (Ended.Stands c.in-Stands.h)) (ap (wants false true) c.new.ensures) c.ended_in.ensures (c.in-Some-ended_in.is ∙ ap Some c.in-Stands.is) in
    let e : outcome_at c.args.s.now c.args.a c.args.probe.now indexes ≡ back_of c.in-Some.b (Some (Ended.Stands c.in-Stands.h)) = outcome_ended c.args.s.now c.args.a c.args.probe.now indexes c.in-Some.b (Some (Ended.Stands c.in-Stands.h)) (sym c.open_at.ensures ∙ c.in-Some.is) q in
    c.floor_in.ensures ∙ ap (floor_of c.args.s.now) (sym e)
