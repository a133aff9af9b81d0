use borrow.Author.Tests.{le-leb, lt-leb, eq-eqb, ne_eqb}
use Rattle.build_sources.specs.Lists.{begun_of}
use Rattle.build_sources.proofs.begin.Goals as goal

pub returns-then-n-lt5 : goal.returns-then-n-lt5
unfolding begun_of
returns-then-n-lt5 c = simp (lt-leb _ _ c.if-n-lt5.true)

pub returns-then-list-ne1 : goal.returns-then-list-ne1
unfolding begun_of
returns-then-list-ne1 c = simp (le-leb _ _ c.if-n-lt5.false, ne_eqb _ _ c.if-list-ne1.true)

pub returns-then-read_u32_be-n : goal.returns-then-read_u32_be-n
unfolding begun_of
returns-then-read_u32_be-n c = simp (le-leb _ _ c.if-n-lt5.false, eq-eqb _ _ c.if-list-ne1.false, ← c.read_u32_be.ensures, ne_eqb _ _ c.if-read_u32_be-n.true)

pub returns : goal.returns
unfolding begun_of
returns c = simp (le-leb _ _ c.if-n-lt5.false, eq-eqb _ _ c.if-list-ne1.false, ← c.read_u32_be.ensures, eq-eqb _ _ c.if-read_u32_be-n.false, c.first_of.ensures)
