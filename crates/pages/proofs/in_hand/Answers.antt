-- `pages::in_hand` meets its contract. Assumes nothing.
use mathlib.Core.Path.{sym}
use Rattle.pages.proofs.InHand.{known_again}
use Rattle.pages.proofs.in_hand.Goals as goal

pub returns-then-a-hand : goal.returns-then-a-hand
returns-then-a-hand c = sym (known_again c.args.s.now c.args.a c.args.hand c.requires c.if-a-hand.true)
