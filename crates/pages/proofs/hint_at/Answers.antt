-- `pages::hint_at` meets its contract. Assumes nothing.
use borrow.Author.Tests.{le-leb, lt-leb, le-ltb, lt-ltb}
use Rattle.pages.specs.HintsAt.{hint_in}
use Rattle.pages.proofs.hint_at.Goals as goal

pub returns-then-h-k : goal.returns-then-h-k
unfolding hint_in
returns-then-h-k c = simp (le-ltb _ _ c.if-h-k.true)

pub returns-then-s-h : goal.returns-then-s-h
unfolding hint_in
returns-then-s-h c = simp (lt-ltb _ _ c.if-h-k.false, lt-leb _ _ c.if-s-h.true)

pub returns-then-s-h-2 : goal.returns-then-s-h-2
unfolding hint_in
returns-then-s-h-2 c = simp (lt-ltb _ _ c.if-h-k.false, le-leb _ _ c.if-s-h.false, le-ltb _ _ c.if-s-h-2.true)

pub returns : goal.returns
unfolding hint_in
returns c = simp (lt-ltb _ _ c.if-h-k.false, le-leb _ _ c.if-s-h.false, lt-ltb _ _ c.if-s-h-2.false, c.read_u64.ensures)
