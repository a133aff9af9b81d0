-- `walks::OldPlace::turned` meets its contract. Assumes nothing.
use native.Mathlib.Omega.{arith}
use mathlib.Core.Path.{sym, ◌∙◌}
use borrow.Author.Tests.{eq-eqb, ne_eqb}
use Rattle.pages.proofs.Olds.{history-inside}
use Rattle.walks.proofs.Lying.{front-few}
use Rattle.walks.specs.Turned.{turned_at}
use Rattle.walks.proofs.OldPlace.turned.Goals as goal

pub returns-then-self : goal.returns-then-self
unfolding turned_at
returns-then-self c = simp (ne_eqb _ _ c.if-self.true)

pub returns-in_err-d : goal.returns-in_err-d
unfolding turned_at
returns-in_err-d c = c.from_residual.ensures ∙ simp (eq-eqb _ _ c.if-self.false, ← c.history_at.ensures, c.in_err-d.was)

pub older_on-requires : goal.older_on-requires
older_on-requires c = let h = history-inside c.args.s.now c.args.self.link c.in_ok-d.d (sym c.history_at.ensures ∙ c.in_ok-d.was) in
    omega (arith, front-few c.args.s.now c.in_ok-d.d h.inside, c.well_formed)

pub returns : goal.returns
unfolding turned_at
returns c = simp (eq-eqb _ _ c.if-self.false, ← c.history_at.ensures, c.in_ok-d.was, c.older_on.ensures)
