-- `overlay::part_in` meets its contract. Assumes nothing.
use native.Mathlib.Omega.{arith}
use mathlib.Core.Path.{refl}
use borrow.Author.Tests.{le-leb, lt-leb}
use native.Mathlib.Nat.{add-sub_cancel_left}
use Rattle.spans.specs.Span.{part, part_or}
use Rattle.overlay.specs.Lent.{start_of}
use Rattle.overlay.proofs.part_in.Goals as goal

pub returns-then-s-p : goal.returns-then-s-p
unfolding part_or part start_of
returns-then-s-p c = record { bytes = simp (lt-leb _ _ c.if-s-p.true); block = refl; offset = simp (lt-leb _ _ c.if-s-p.true) (omega arith) }

pub returns-then-s-p-2 : goal.returns-then-s-p-2
unfolding part_or part start_of
returns-then-s-p-2 c = record { bytes = simp (le-leb _ _ c.if-s-p.false, lt-leb _ _ c.if-s-p-2.true); block = refl; offset = simp (le-leb _ _ c.if-s-p.false, lt-leb _ _ c.if-s-p-2.true) (omega arith) }

pub returns : goal.returns
unfolding part_or part start_of
returns c = record { bytes = simp (le-leb _ _ c.if-s-p.false, le-leb _ _ c.if-s-p-2.false, add-sub_cancel_left); block = refl; offset = simp (le-leb _ _ c.if-s-p.false, le-leb _ _ c.if-s-p-2.false) (omega arith) }
