-- `asof::in_hand` meets its contract. Assumes nothing.
use Rattle.std.proofs.Common.{Some}
use native.Mathlib.Omega.{arith}
use mathlib.Core.Path.{sym, ap, ◌∙◌}
use Rattle.frames.specs.declared.Body.{Body}
use Rattle.records.proofs.Quick.{quick_is}
use Rattle.records.proofs.Inside.{ver-inside}
use Rattle.walks.proofs.Lying.{body_is, body-inside}
use Rattle.asof.proofs.Hand.{goes_none, hand_on, hand_is, rec_none}
use Rattle.asof.proofs.in_hand.Goals as goal

pub returns-in_default : goal.returns-in_default
returns-in_default c = goes_none _ _ _

pub newer_in-requires : goal.newer_in-requires
newer_in-requires c = sym c.body_of.ensures ∙ c.in-Some.is

pub further-here-requires : goal.further-here-requires
further-here-requires c = record {
  n_bound = c.newer_in.ensures.word;
  n_le_left = c.newer_in.ensures.few;
}

pub returns-then-here-eq0 : goal.returns-then-here-eq0
returns-then-here-eq0 c = hand_on c.args.s.now c.args.v c.args.from c.in-Some.b (sym c.body_of.ensures ∙ c.in-Some.is) c.newer_in.result c.newer_in.ensures c.further-here.ensures

pub quick_old-requires : goal.quick_old-requires
quick_old-requires c = let o = sym c.body_of.ensures ∙ c.in-Some.is in
    record {
      inside = body-inside c.args.s.now c.args.from.page 2 c.in-Some.b o;
      kind_value = ap (λ (y : Body). y.kind) (sym (body_is c.args.s.now c.args.from.page 2 c.in-Some.b o));
    }

pub returns-in_default-quick_old : goal.returns-in_default-quick_old
returns-in_default-quick_old c = hand_on c.args.s.now c.args.v c.args.from c.in-Some.b (sym c.body_of.ensures ∙ c.in-Some.is) c.newer_in.result c.newer_in.ensures c.further-here.ensures

pub ver_at-ver-requires : goal.ver_at-ver-requires
ver_at-ver-requires c = let o = sym c.body_of.ensures ∙ c.in-Some.is in
    ver-inside c.args.s.now c.in-Some.b c.further-here.result.slot c.in-Some-quick_old.x (body-inside c.args.s.now c.args.from.page 2 c.in-Some.b o) (λ z. omega (arith, ap (λ (y : Body). y.kind) (sym (body_is c.args.s.now c.args.from.page 2 c.in-Some.b o)), z)) (quick_is (Some c.in-Some-quick_old.x) c.quick_old.ensures c.in-Some-quick_old.is (rec_none c.in-Some-quick_old.x))

pub returns-then-newer : goal.returns-then-newer
returns-then-newer c = hand_on c.args.s.now c.args.v c.args.from c.in-Some.b (sym c.body_of.ensures ∙ c.in-Some.is) c.newer_in.result c.newer_in.ensures c.further-here.ensures

pub returns : goal.returns
returns c = hand_is c.args.s.now c.args.v c.args.from c.in-Some.b (sym c.body_of.ensures ∙ c.in-Some.is) c.newer_in.result c.newer_in.ensures c.further-here.ensures c.if-here-eq0.false c.in-Some-quick_old.x (quick_is (Some c.in-Some-quick_old.x) c.quick_old.ensures c.in-Some-quick_old.is (rec_none c.in-Some-quick_old.x)) c.ver_at-ver.ensures (sym c.newer.ensures ∙ c.if-newer.false)
