-- `pages::judged` meets its contract. Assumes nothing.
use mathlib.Core.Path.{sym, ◌∙◌}
use Rattle.pages.specs.Hand.{judged_at}
use Rattle.pages.proofs.Olds.{history-inside}
use Rattle.pages.proofs.judged.Goals as goal

pub returns-in_err-b : goal.returns-in_err-b
unfolding judged_at
returns-in_err-b c = c.from_residual.ensures ∙ simp (← c.history_at.ensures, c.in_err-b.was)

pub slots_ok-requires : goal.slots_ok-requires
slots_ok-requires c = (history-inside c.args.s.now c.args.a c.in_ok-b.b (sym c.history_at.ensures ∙ c.in_ok-b.was)).inside

pub returns-then-slots_ok : goal.returns-then-slots_ok
unfolding judged_at
returns-then-slots_ok c = simp (← c.history_at.ensures, c.in_ok-b.was, ← c.slots_ok.ensures, c.if-slots_ok.true)

pub returns : goal.returns
unfolding judged_at
returns c = simp (← c.history_at.ensures, c.in_ok-b.was, ← c.slots_ok.ensures, c.if-slots_ok.false)
