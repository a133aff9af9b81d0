-- `walks::OldPlace::aged` meets its contract. Assumes nothing.
use native.Mathlib.Omega.{arith}
use mathlib.Core.Path.{sym, ◌∙◌}
use borrow.Author.Tests.{eq-eqb, ne_eqb}
use Rattle.walks.specs.Aged.{aged_at}
use Rattle.walks.proofs.Turns.{turned_left}
use Rattle.walks.proofs.OldPlace.aged.Goals as goal

pub returns-then-self-eq0 : goal.returns-then-self-eq0
unfolding aged_at
returns-then-self-eq0 c = simp (eq-eqb _ _ c.if-self-eq0.true)

pub returns-in_default : goal.returns-in_default
unfolding aged_at
returns-in_default c = simp (ne_eqb _ _ c.if-self-eq0.false, ← c.turned.ensures, c.in_default.is)

pub aged_here-requires : goal.aged_here-requires
aged_here-requires c = let e = turned_left c.args.s.now c.args.self c.in-Some.older _ (sym c.turned.ensures ∙ c.in-Some.is) in
    omega (arith, e, c.if-self-eq0.false)

pub returns : goal.returns
unfolding aged_at
returns c = simp (ne_eqb _ _ c.if-self-eq0.false, ← c.turned.ensures, c.in-Some.is, c.aged_here.ensures)
