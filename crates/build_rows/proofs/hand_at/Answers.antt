-- `build_rows::hand_at` meets its contract. Assumes nothing.
use mathlib.Core.Path.{refl, sym, ◌∙◌}
use Rattle.build_rows.proofs.Hands.{hold_again, hold_new, opens-some}
use Rattle.build_rows.proofs.hand_at.Goals as goal

pub returns-then-a-hand : goal.returns-then-a-hand
returns-then-a-hand c = let all = hold_again c.args.s.now c.args.a c.args.hand c.requires.known c.requires.opens c.if-a-hand.true in record {
  holds = all.0;
  page_value = all.1;
}

pub returns-in_default : goal.returns-in_default
returns-in_default c = absurd (opens-some c.args.s.now c.args.a c.requires.opens (sym c.history_at.ensures ∙ c.in_default.is))

pub returns : goal.returns
returns c = record {
  holds = hold_new c.args.s.now c.args.a c.in-Some.b (sym c.history_at.ensures ∙ c.in-Some.is);
  page_value = refl;
}
