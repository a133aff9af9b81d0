-- `records::slot_at` meets its contract. Assumes nothing.
use borrow.Author.Tests.{le-leb, lt-leb, le-ltb, lt-ltb}
use Rattle.records.specs.Records.{slot_at}
use Rattle.records.proofs.slot_at.Goals as goal

pub returns-then-b-i : goal.returns-then-b-i
unfolding slot_at
returns-then-b-i c = simp (le-ltb _ _ c.if-b-i.true)

pub returns-then-p-b : goal.returns-then-p-b
unfolding slot_at
returns-then-p-b c = simp (lt-ltb _ _ c.if-b-i.false, ← c.read_u32.ensures, lt-leb _ _ c.if-p-b.true)

pub returns-then-b-p : goal.returns-then-b-p
unfolding slot_at
returns-then-b-p c = simp (lt-ltb _ _ c.if-b-i.false, ← c.read_u32.ensures, le-leb _ _ c.if-p-b.false, le-ltb _ _ c.if-b-p.true)

pub returns : goal.returns
unfolding slot_at
returns c = simp (lt-ltb _ _ c.if-b-i.false, ← c.read_u32.ensures, le-leb _ _ c.if-p-b.false, lt-ltb _ _ c.if-b-p.false)
