-- `walks::up` meets its contract. Assumes nothing.
use borrow.Author.Tests.{le-leb, lt-leb}
use Rattle.walks.specs.Walk.{up_range}
use Rattle.walks.proofs.up.Goals as goal

pub returns-then-elems-end : goal.returns-then-elems-end
unfolding up_range
returns-then-elems-end c = simp (lt-leb _ _ c.if-elems-end.true)

pub returns : goal.returns
unfolding up_range
returns c = simp (le-leb _ _ c.if-elems-end.false, c.less.ensures)
