use mathlib.Core.Path.{sym, ◌∙◌}
use Prim.Native.Nat.{◌+◌}
use native.Mathlib.Omega.{arith}
use borrow.Author.Tests.{leb-true, eq-eqb, ne_eqb, le-leb, lt-leb}
use lib.ListN.{length}
use Rattle.values.specs.Keys.{key_at}
use Rattle.values.proofs.key_at.Goals as goal

pub overflow_add-result : goal.overflow_add-result
overflow_add-result c = omega (arith, leb-true (c.args.at + 12) (length c.args.s.now) (sym c.room.ensures ∙ c.if-room.true))

pub returns-then-room : goal.returns-then-room
unfolding key_at
returns-then-room c = simp (eq-eqb _ _ c.if-kind-eq2.true, ← c.room.ensures, c.if-room.true)

pub returns-then-kind-eq2 : goal.returns-then-kind-eq2
unfolding key_at
returns-then-kind-eq2 c = simp (eq-eqb _ _ c.if-kind-eq2.true, ← c.room.ensures, c.if-room.false)

pub returns-in_default : goal.returns-in_default
unfolding key_at
returns-in_default c = simp (ne_eqb _ _ c.if-kind-eq2.false, ← c.read.ensures, c.in_default.is)

pub returns-then-n-skip : goal.returns-then-n-skip
unfolding key_at
returns-then-n-skip c = simp (ne_eqb _ _ c.if-kind-eq2.false, ← c.read.ensures, c.in-Some.is, ← c.skip_of-skip.ensures, lt-leb _ _ c.if-n-skip.true)

pub overflow_add-result-then-room-2 : goal.overflow_add-result-then-room-2
overflow_add-result-then-room-2 c = omega (arith, leb-true (c.in-Some.next + c.in-Some.v) (length c.args.s.now) (sym c.room-2.ensures ∙ c.if-room-2.true))

pub returns-then-room-2 : goal.returns-then-room-2
unfolding key_at
returns-then-room-2 c = simp (ne_eqb _ _ c.if-kind-eq2.false, ← c.read.ensures, c.in-Some.is, ← c.skip_of-skip.ensures, le-leb _ _ c.if-n-skip.false, ← c.room-2.ensures, c.if-room-2.true)

pub returns : goal.returns
unfolding key_at
returns c = simp (ne_eqb _ _ c.if-kind-eq2.false, ← c.read.ensures, c.in-Some.is, ← c.skip_of-skip.ensures, le-leb _ _ c.if-n-skip.false, ← c.room-2.ensures, c.if-room-2.false)
