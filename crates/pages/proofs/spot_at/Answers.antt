-- `pages::spot_at` meets its contract. Assumes nothing.
use mathlib.Core.Path.{refl, sym, ◌∙◌}
use Rattle.pages.proofs.InHand.{spot_here, spot_behind, spot_none}
use Rattle.pages.proofs.spot_at.Goals as goal

pub returns-then-i-hand : goal.returns-then-i-hand
returns-then-i-hand c = spot_here c.args.s.now c.args.hand c.args.i _ refl refl c.requires.held c.if-i-hand.true

pub returns-in_err-h : goal.returns-in_err-h
returns-in_err-h c = rw c.from_residual.ensures (spot_none c.args.s.now c.args.hand c.requires.held c.args.i c.if-i-hand.false c.requires.i_le_elems (sym c.judged.ensures ∙ c.in_err-h.was))

pub returns : goal.returns
returns c = spot_behind c.args.s.now c.args.hand c.requires.held c.args.i c.if-i-hand.false c.requires.i_le_elems c.in_ok-h.h _ refl refl (sym c.judged.ensures ∙ c.in_ok-h.was)
