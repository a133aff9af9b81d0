-- `pages::history_at` meets its contract. Assumes nothing.
use mathlib.Core.Path.{sym, ◌∙◌}
use borrow.Author.Tests.{eq-eqb, ne_eqb}
use Rattle.pages.specs.Sound.{history_at}
use Rattle.pages.proofs.Olds.{history-is}
use Rattle.pages.proofs.history_at.Goals as goal

pub returns-in-Some : goal.returns-in-Some
returns-in-Some c = sym (history-is c.args.s.now c.args.a c.in-Some.d (c.quick_history.ensures c.in-Some.d c.in-Some.is))

pub returns-in_err-b : goal.returns-in_err-b
unfolding history_at
returns-in_err-b c = c.from_residual.ensures ∙ simp (← c.open_at.ensures, c.in_err-b.was)

pub returns-then-b-ne-HISTORY : goal.returns-then-b-ne-HISTORY
unfolding history_at
returns-then-b-ne-HISTORY c = simp (← c.open_at.ensures, c.in_ok-b.was, ne_eqb _ _ c.if-b-ne-HISTORY.true)

pub returns : goal.returns
unfolding history_at
returns c = simp (← c.open_at.ensures, c.in_ok-b.was, eq-eqb _ _ c.if-b-ne-HISTORY.false)
