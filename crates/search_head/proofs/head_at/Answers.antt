-- `search_head::head_at` meets its contract. Assumes nothing.
use Rattle.sst.specs.declared.Outcome.{Outcome}
use Rattle.std.proofs.Common.{Some, None}
use mathlib.Core.Path.{◌≡◌, sym, ap, ◌∙◌}
use Rattle.sst.specs.Search.{leaves, outcome_at}
use Rattle.sst.proofs.Opens.{outcome_ready, leaf_kind}
use Rattle.search_head.specs.Head.{head_of, head_at}
use Rattle.search_head.proofs.head_at.Goals as goal

pub head_in-requires : goal.head_in-requires
head_in-requires c = let e : outcome_at c.args.s.now c.args.a c.args.probe.now leaves ≡ Some (Outcome.Stands c.in-Stands.b c.in-Stands.h) = cc in
    let k = (outcome_ready c.args.s.now c.args.a c.args.probe.now leaves c.in-Stands.b c.in-Stands.h e).0 in
    record {
      inside = k.inside;
      kind_value = leaf_kind c.in-Stands.b.kind k.right;
    }

pub returns-in_default : goal.returns-in_default
unfolding head_at
returns-in_default c = let e : outcome_at c.args.s.now c.args.a c.args.probe.now leaves ≡ None = cc in
    ap (head_of c.args.s.now) (sym e)

pub returns-in-Empty : goal.returns-in-Empty
unfolding head_at
returns-in-Empty c = let e : outcome_at c.args.s.now c.args.a c.args.probe.now leaves ≡ (Some Outcome.Empty) = cc in
    ap (head_of c.args.s.now) (sym e)

pub returns-in-Stands : goal.returns-in-Stands
unfolding head_at
returns-in-Stands c = let e : outcome_at c.args.s.now c.args.a c.args.probe.now leaves ≡ Some (Outcome.Stands c.in-Stands.b c.in-Stands.h) = cc in
    c.head_in.ensures ∙ ap (head_of c.args.s.now) (sym e)
