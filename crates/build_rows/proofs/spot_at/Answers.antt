-- `build_rows::spot_at` meets its contract. Assumes nothing.
use mathlib.Core.Logic.{inr}
use Rattle.build_rows.proofs.Hands.{spot_own, link-opens, spot_linked}
use Rattle.build_rows.proofs.spot_at.Goals as goal

pub returns-then-slot-hand : goal.returns-then-slot-hand
returns-then-slot-hand c = spot_own c.args.s.now c.args.hand c.args.slot c.requires.holds c.if-slot-hand.true

pub hand_at-requires : goal.hand_at-requires
hand_at-requires c = record {
  known = inr c.requires.holds;
  opens = link-opens c.args.s.now c.args.hand c.args.slot c.requires.holds c.if-slot-hand.false c.requires.answers;
}

pub returns : goal.returns
returns c = spot_linked c.args.s.now c.args.hand c.args.slot c.hand_at.result c.requires.holds c.if-slot-hand.false c.hand_at.ensures.holds c.hand_at.ensures.page_value
