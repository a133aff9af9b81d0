-- `pages::check` meets its contract. Assumes nothing.
use native.Mathlib.Omega.{arith}
use mathlib.Core.Path.{sym, ◌∙◌}
use mathlib.Core.Bool.{true, false}
use Rattle.frames.proofs.Frames.{open_inside, open_kind}
use Rattle.pages.specs.Sound.{slots_ok}
use Rattle.pages.proofs.Given.{yes}
use Rattle.pages.proofs.Turns.{check_none, check_yes, check_no, body-kind, body-recs, body-hints, body-bounds}
use Rattle.pages.proofs.check.Goals as goal

pub returns-in_default : goal.returns-in_default
returns-in_default c = sym (check_none c.args.s.now c.args.a (sym c.open_at.ensures ∙ c.in_default.is))

pub returns-then-b-eq-HISTORY : goal.returns-then-b-eq-HISTORY
returns-then-b-eq-HISTORY c = sym (check_no c.args.s.now c.args.a _ (sym c.open_at.ensures ∙ c.in-Some.is) (body-kind c.args.s.now c.in-Some.b c.if-b-eq-HISTORY.true))

pub recs_ok-requires : goal.recs_ok-requires
recs_ok-requires c = record {
  inside = (open_inside c.args.s.now c.args.a c.in-Some.b (sym c.open_at.ensures ∙ c.in-Some.is)).0;
  kind_bound = omega (arith, open_kind c.args.s.now c.args.a c.in-Some.b (sym c.open_at.ensures ∙ c.in-Some.is), c.if-b-eq-HISTORY.false);
}

pub hints_ok-requires : goal.hints_ok-requires
hints_ok-requires c = (open_inside c.args.s.now c.args.a c.in-Some.b (sym c.open_at.ensures ∙ c.in-Some.is)).0

pub bounded-requires : goal.bounded-requires
bounded-requires c = record {
  inside = (open_inside c.args.s.now c.args.a c.in-Some.b (sym c.open_at.ensures ∙ c.in-Some.is)).0;
  fact = c.if-b-eq-HISTORY.false;
  b_value = (yes (slots_ok c.args.s.now c.in-Some.b) _ (sym c.recs_ok.ensures ∙ c.if-recs_ok.true)).0;
}

pub returns-then-bounded : goal.returns-then-bounded
returns-then-bounded c = let g = (yes (slots_ok c.args.s.now c.in-Some.b) _ (sym c.recs_ok.ensures ∙ c.if-recs_ok.true)) in
    sym (check_yes c.args.s.now c.args.a _ (sym c.open_at.ensures ∙ c.in-Some.is) (body-bounds c.args.s.now c.in-Some.b c.if-b-eq-HISTORY.false true g.0 g.1 (sym c.hints_ok.ensures ∙ c.if-hints_ok.true) (sym c.bounded.ensures ∙ c.if-bounded.true)))

pub returns-else-bounded : goal.returns-else-bounded
returns-else-bounded c = let g = (yes (slots_ok c.args.s.now c.in-Some.b) _ (sym c.recs_ok.ensures ∙ c.if-recs_ok.true)) in
    sym (check_no c.args.s.now c.args.a _ (sym c.open_at.ensures ∙ c.in-Some.is) (body-bounds c.args.s.now c.in-Some.b c.if-b-eq-HISTORY.false false g.0 g.1 (sym c.hints_ok.ensures ∙ c.if-hints_ok.true) (sym c.bounded.ensures ∙ c.if-bounded.false)))

pub returns-else-hints_ok : goal.returns-else-hints_ok
returns-else-hints_ok c = let g = (yes (slots_ok c.args.s.now c.in-Some.b) _ (sym c.recs_ok.ensures ∙ c.if-recs_ok.true)) in
    sym (check_no c.args.s.now c.args.a _ (sym c.open_at.ensures ∙ c.in-Some.is) (body-hints c.args.s.now c.in-Some.b c.if-b-eq-HISTORY.false g.0 g.1 (sym c.hints_ok.ensures ∙ c.if-hints_ok.false)))

pub returns-else-recs_ok : goal.returns-else-recs_ok
returns-else-recs_ok c = sym (check_no c.args.s.now c.args.a _ (sym c.open_at.ensures ∙ c.in-Some.is) (body-recs c.args.s.now c.in-Some.b c.if-b-eq-HISTORY.false (sym c.recs_ok.ensures ∙ c.if-recs_ok.false)))
