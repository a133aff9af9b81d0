use mathlib.Core.Path.{sym, ◌∙◌}
use Prim.Native.Nat.{◌+◌}
use native.Mathlib.Omega.{arith}
use borrow.Author.Tests.{leb-true, le-leb, lt-leb}
use lib.ListN.{length}
use Rattle.values.specs.Vals.{val_at}
use Rattle.values.proofs.Val.decode_from.Goals as goal

pub returns-in_err-front : goal.returns-in_err-front
unfolding val_at
returns-in_err-front c = c.from_residual.ensures ∙ simp (← c.front_at.ensures, c.in_err-front.was)

pub read_u32-n-requires : goal.read_u32-n-requires
read_u32-n-requires c = omega (arith, leb-true (c.in_ok-front.front.next + 4) (length c.args.s.now) (sym c.room.ensures ∙ c.if-room.true))

pub returns-then-n-gt-MAX_VALUE : goal.returns-then-n-gt-MAX_VALUE
unfolding val_at
returns-then-n-gt-MAX_VALUE c = simp (← c.front_at.ensures, c.in_ok-front.was, ← c.room.ensures, c.if-room.true, ← c.read_u32-n.ensures, lt-leb _ _ c.if-n-gt-MAX_VALUE.true)

pub overflow_add-front : goal.overflow_add-front
overflow_add-front c = omega (arith, leb-true (c.in_ok-front.front.next + 12) (length c.args.s.now) (sym c.room-then-front.ensures ∙ c.if-room-2.true))

pub read_u64-requires : goal.read_u64-requires
read_u64-requires c = omega (arith, leb-true (c.in_ok-front.front.next + 12) (length c.args.s.now) (sym c.room-then-front.ensures ∙ c.if-room-2.true))

pub overflow_add-result : goal.overflow_add-result
overflow_add-result c = omega (arith, leb-true (c.in_ok-front.front.next + 12) (length c.args.s.now) (sym c.room-then-front.ensures ∙ c.if-room-2.true))

pub returns-then-room-2 : goal.returns-then-room-2
unfolding val_at
returns-then-room-2 c = simp (← c.front_at.ensures, c.in_ok-front.was, ← c.room.ensures, c.if-room.true, ← c.read_u32-n.ensures, le-leb _ _ c.if-n-gt-MAX_VALUE.false, c.if-front.true, ← c.room-then-front.ensures, c.if-room-2.true, c.read_u64.ensures)

pub returns-then-front : goal.returns-then-front
unfolding val_at
returns-then-front c = simp (← c.front_at.ensures, c.in_ok-front.was, ← c.room.ensures, c.if-room.true, ← c.read_u32-n.ensures, le-leb _ _ c.if-n-gt-MAX_VALUE.false, c.if-front.true, ← c.room-then-front.ensures, c.if-room-2.false)

pub overflow_add-p : goal.overflow_add-p
overflow_add-p c = omega (arith, leb-true (c.in_ok-front.front.next + 4) (length c.args.s.now) (sym c.room.ensures ∙ c.if-room.true))

pub overflow_add-result-then-room-3 : goal.overflow_add-result-then-room-3
overflow_add-result-then-room-3 c = omega (arith, leb-true (c.in_ok-front.front.next + 4 + c.read_u32-n.result) (length c.args.s.now) (sym c.room-then-room.ensures ∙ c.if-room-3.true))

pub returns-then-room-3 : goal.returns-then-room-3
unfolding val_at
returns-then-room-3 c = simp (← c.front_at.ensures, c.in_ok-front.was, ← c.room.ensures, c.if-room.true, ← c.read_u32-n.ensures, le-leb _ _ c.if-n-gt-MAX_VALUE.false, c.if-front.false, ← c.room-then-room.ensures, c.if-room-3.true)

pub returns-else-room-3 : goal.returns-else-room-3
unfolding val_at
returns-else-room-3 c = simp (← c.front_at.ensures, c.in_ok-front.was, ← c.room.ensures, c.if-room.true, ← c.read_u32-n.ensures, le-leb _ _ c.if-n-gt-MAX_VALUE.false, c.if-front.false, ← c.room-then-room.ensures, c.if-room-3.false)

pub returns-else-room : goal.returns-else-room
unfolding val_at
returns-else-room c = simp (← c.front_at.ensures, c.in_ok-front.was, ← c.room.ensures, c.if-room.false)
