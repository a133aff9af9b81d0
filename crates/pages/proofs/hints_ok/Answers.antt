-- `pages::hints_ok` meets its contract. Assumes nothing.
use borrow.Author.Tests.{le-leb, lt-leb, eq-eqb, ne_eqb}
use Rattle.pages.specs.Sound.{hints_ok}
use Rattle.pages.proofs.Turns.{hints_fit}
use Rattle.pages.proofs.hints_ok.Goals as goal

pub returns-then-b : goal.returns-then-b
unfolding hints_ok
returns-then-b c = simp (eq-eqb _ _ c.if-b.true)

pub returns-then-b-2 : goal.returns-then-b-2
unfolding hints_ok
returns-then-b-2 c = simp (ne_eqb _ _ c.if-b.false, lt-leb _ _ c.if-b-2.true)

pub returns-then-b-p : goal.returns-then-b-p
unfolding hints_ok
returns-then-b-p c = simp (ne_eqb _ _ c.if-b.false, le-leb _ _ c.if-b-2.false, ← c.read_u32.ensures, lt-leb _ _ c.if-b-p.true)

pub returns : goal.returns
returns c = hints_fit c.args.s.now c.args.b c.read_u32.result c.read_u32-2.result c.read_u32.ensures c.read_u32-2.ensures c.if-b.false c.if-b-2.false c.if-b-p.false
