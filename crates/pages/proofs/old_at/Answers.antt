-- `pages::old_at` meets its contract. Assumes nothing.
use mathlib.Core.Path.{sym, ◌∙◌}
use borrow.Author.Tests.{eq-eqb, ne_eqb}
use Rattle.pages.specs.Sound.{old_at}
use Rattle.pages.proofs.Olds.{history-inside}
use Rattle.pages.proofs.old_at.Goals as goal

pub returns-in_err-b : goal.returns-in_err-b
unfolding old_at
returns-in_err-b c = c.from_residual.ensures ∙ simp (← c.history_at.ensures, c.in_err-b.was)

pub old_in-requires : goal.old_in-requires
old_in-requires c = (history-inside c.args.s.now c.args.a c.in_ok-b.b (sym c.history_at.ensures ∙ c.in_ok-b.was)).inside

pub returns-then-i-b : goal.returns-then-i-b
unfolding old_at
returns-then-i-b c = simp (← c.history_at.ensures, c.in_ok-b.was, ne_eqb _ _ c.if-i-b.true, c.old_in.ensures)

pub returns-in_err-d : goal.returns-in_err-d
unfolding old_at
returns-in_err-d c = c.from_residual-in_err-d.ensures ∙ simp (← c.history_at.ensures, c.in_ok-b.was, eq-eqb _ _ c.if-i-b.false, ← c.history_at-2.ensures, c.in_err-d.was)

pub old_in-requires-2 : goal.old_in-requires-2
old_in-requires-2 c = (history-inside c.args.s.now c.in_ok-b.b.link c.in_ok-d.d (sym c.history_at-2.ensures ∙ c.in_ok-d.was)).inside

pub returns : goal.returns
unfolding old_at
returns c = simp (← c.history_at.ensures, c.in_ok-b.was, eq-eqb _ _ c.if-i-b.false, ← c.history_at-2.ensures, c.in_ok-d.was, c.old_in-2.ensures)
