-- `records::bytes_at` meets its contract. Assumes nothing.
use native.Mathlib.Omega.{arith}
use Prim.Native.Nat.{◌+◌}
use mathlib.Core.Path.{sym, ◌∙◌}
use lib.ListN.{length}
use borrow.Author.Tests.{le-leb, lt-leb, leb-true}
use Rattle.records.proofs.bytes_at.Goals as goal

pub read_u32-n-requires : goal.read_u32-n-requires
read_u32-n-requires c = omega (arith, leb-true (c.args.at + 4) (length c.args.t.now) (sym c.room.ensures ∙ c.if-room.true))

pub returns-then-n-gt-MAX_VALUE : goal.returns-then-n-gt-MAX_VALUE
returns-then-n-gt-MAX_VALUE c = simp (← c.room.ensures, c.if-room.true, ← c.read_u32-n.ensures, lt-leb _ _ c.if-n-gt-MAX_VALUE.true)

pub overflow_add-p : goal.overflow_add-p
overflow_add-p c = omega (arith, leb-true (c.args.at + 4) (length c.args.t.now) (sym c.room.ensures ∙ c.if-room.true))

pub overflow_sub-t : goal.overflow_sub-t
overflow_sub-t c = omega (arith, leb-true (c.args.at + 4) (length c.args.t.now) (sym c.room.ensures ∙ c.if-room.true))

pub overflow_add-result : goal.overflow_add-result
overflow_add-result c = omega (arith, leb-true (c.args.at + 4) (length c.args.t.now) (sym c.room.ensures ∙ c.if-room.true), c.if-n-t.true)

pub returns-then-n-t : goal.returns-then-n-t
returns-then-n-t c = simp (← c.room.ensures, c.if-room.true, ← c.read_u32-n.ensures, le-leb _ _ c.if-n-gt-MAX_VALUE.false, le-leb (c.args.at + 4 + c.read_u32-n.result) (length c.args.t.now) (omega (arith, leb-true (c.args.at + 4) (length c.args.t.now) (sym c.room.ensures ∙ c.if-room.true), c.if-n-t.true)))

pub returns-else-n-t : goal.returns-else-n-t
returns-else-n-t c = simp (← c.room.ensures, c.if-room.true, ← c.read_u32-n.ensures, le-leb _ _ c.if-n-gt-MAX_VALUE.false, lt-leb (c.args.at + 4 + c.read_u32-n.result) (length c.args.t.now) (omega (arith, leb-true (c.args.at + 4) (length c.args.t.now) (sym c.room.ensures ∙ c.if-room.true), c.if-n-t.false)))

pub returns-else-room : goal.returns-else-room
returns-else-room c = simp (← c.room.ensures, c.if-room.false)
