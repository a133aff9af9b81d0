-- `frames::Clerk::take` meets its contract. Assumes nothing.
use borrow.Author.Tests.{le-leb, lt-leb}
use Rattle.frames.specs.Clerks.{taken_of}
use Rattle.frames.proofs.Clerk.take.Goals as goal

pub returns-then-size-self : goal.returns-then-size-self
unfolding taken_of
returns-then-size-self c = simp (le-leb _ _ c.if-self.true, le-leb _ _ c.if-size-self.true)

pub returns-else-size-self : goal.returns-else-size-self
unfolding taken_of
returns-else-size-self c = simp (le-leb _ _ c.if-self.true, lt-leb _ _ c.if-size-self.false)

pub returns-else-self : goal.returns-else-self
unfolding taken_of
returns-else-self c = simp (lt-leb _ _ c.if-self.false)
