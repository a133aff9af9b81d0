-- `walks::enter` meets its contract. Assumes nothing.
use native.Mathlib.Omega.{arith}
use mathlib.Core.Path.{sym, ◌∙◌}
use borrow.Author.Tests.{le-ltb, lt-ltb, eq-eqb, ne_eqb}
use Rattle.pages.proofs.Olds.{history-inside}
use Rattle.walks.specs.Walk.{enter_at}
use Rattle.walks.proofs.Lying.{front-few}
use Rattle.walks.proofs.enter.Goals as goal

pub returns-then-h-eq0 : goal.returns-then-h-eq0
unfolding enter_at
returns-then-h-eq0 c = simp (eq-eqb _ _ c.if-h-eq0.true)

pub returns-in_err-b : goal.returns-in_err-b
unfolding enter_at
returns-in_err-b c = c.from_residual.ensures ∙ simp (ne_eqb _ _ c.if-h-eq0.false, ← c.history_at.ensures, c.in_err-b.was)

pub older_on-requires : goal.older_on-requires
older_on-requires c = let h = history-inside c.args.s.now c.args.h.page c.in_ok-b.b (sym c.history_at.ensures ∙ c.in_ok-b.was) in
    omega (arith, front-few c.args.s.now c.in_ok-b.b h.inside, c.well_formed)

pub returns-then-slot-b : goal.returns-then-slot-b
unfolding enter_at
returns-then-slot-b c = simp (ne_eqb _ _ c.if-h-eq0.false, ← c.history_at.ensures, c.in_ok-b.was, lt-ltb _ _ c.if-slot-b.true, c.older_on.ensures)

pub returns : goal.returns
unfolding enter_at
returns c = simp (ne_eqb _ _ c.if-h-eq0.false, ← c.history_at.ensures, c.in_ok-b.was, le-ltb _ _ c.if-slot-b.false)
