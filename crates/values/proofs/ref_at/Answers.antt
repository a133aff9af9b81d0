use mathlib.Core.Path.{sym, ◌∙◌}
use Prim.Native.Nat.{◌+◌}
use native.Mathlib.Omega.{arith}
use borrow.Author.Tests.{leb-true, eq-eqb, ne_eqb}
use lib.ListN.{length}
use Rattle.values.specs.Vals.{ref_at}
use Rattle.values.proofs.ref_at.Goals as goal

pub overflow_add-at : goal.overflow_add-at
overflow_add-at c = omega (arith, leb-true (c.args.at + 14) (length c.args.s.now) (sym c.room.ensures ∙ c.if-room.true))

pub read_u32-count-requires : goal.read_u32-count-requires
read_u32-count-requires c = omega (arith, leb-true (c.args.at + 14) (length c.args.s.now) (sym c.room.ensures ∙ c.if-room.true))

pub returns-then-count-eq0 : goal.returns-then-count-eq0
unfolding ref_at
returns-then-count-eq0 c = simp (← c.room.ensures, c.if-room.true, ← c.read_u32-count.ensures, eq-eqb _ _ c.if-count-eq0.true)

pub read_u64-requires : goal.read_u64-requires
read_u64-requires c = omega (arith, leb-true (c.args.at + 14) (length c.args.s.now) (sym c.room.ensures ∙ c.if-room.true))

pub overflow_add-at-then-room : goal.overflow_add-at-then-room
overflow_add-at-then-room c = omega (arith, leb-true (c.args.at + 14) (length c.args.s.now) (sym c.room.ensures ∙ c.if-room.true))

pub read_u16-requires : goal.read_u16-requires
read_u16-requires c = omega (arith, leb-true (c.args.at + 14) (length c.args.s.now) (sym c.room.ensures ∙ c.if-room.true))

pub overflow_add-result : goal.overflow_add-result
overflow_add-result c = omega (arith, leb-true (c.args.at + 14) (length c.args.s.now) (sym c.room.ensures ∙ c.if-room.true))

pub returns-then-room : goal.returns-then-room
unfolding ref_at
returns-then-room c = simp (← c.room.ensures, c.if-room.true, ← c.read_u32-count.ensures, ne_eqb _ _ c.if-count-eq0.false, c.read_u64.ensures, c.read_u16.ensures)

pub returns : goal.returns
unfolding ref_at
returns c = simp (← c.room.ensures, c.if-room.false)
