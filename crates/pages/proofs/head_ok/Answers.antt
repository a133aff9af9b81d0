-- `pages::head_ok` meets its contract. Assumes nothing.
use native.Mathlib.Omega.{arith}
use mathlib.Core.Path.{sym, ◌∙◌}
use mathlib.Core.Logic.{inr}
use Rattle.pages.proofs.Turns.{head_none}
use Rattle.pages.proofs.InHand.{judged-held, head_not_whole, head_held, head_outside}
use Rattle.pages.proofs.head_ok.Goals as goal

pub returns-then-h-eq0 : goal.returns-then-h-eq0
returns-then-h-eq0 c = record {
  ok_value = sym (head_none c.args.s.now c.args.r c.if-h-eq0.true);
  known_2 = c.requires.known;
}

pub returns-in_default : goal.returns-in_default
returns-in_default c = record {
  ok_value = sym (head_not_whole c.args.s.now c.args.r c.if-h-eq0.false (sym c.in_hand.ensures ∙ c.in_default.is));
  known_2 = c.requires.known;
}

pub chain-requires : goal.chain-requires
chain-requires c = record {
  held = judged-held c.args.s.now c.args.r.hist.page c.in-Some.x (sym c.in_hand.ensures ∙ c.in-Some.is);
  i_le_elems = omega (arith, c.if-h-x.true);
}

pub returns-then-h-x : goal.returns-then-h-x
returns-then-h-x c = record {
  ok_value = c.chain.ensures.ok_value ∙ head_held c.args.s.now c.args.r c.if-h-eq0.false c.in-Some.x (sym c.in_hand.ensures ∙ c.in-Some.is) _ c.ver_at.ensures c.if-h-x.true;
  known_2 = inr c.chain.ensures.held_2;
}

pub returns : goal.returns
returns c = record {
  ok_value = sym (head_outside c.args.s.now c.args.r c.if-h-eq0.false c.in-Some.x (sym c.in_hand.ensures ∙ c.in-Some.is) c.if-h-x.false);
  known_2 = c.requires.known;
}
