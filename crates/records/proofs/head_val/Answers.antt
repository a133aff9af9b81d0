-- `records::head_val` meets its contract. Assumes nothing.
use native.Mathlib.Omega.{arith}
use Prim.Native.Nat.{◌+◌}
use mathlib.Core.Path.{refl, sym, ◌∙◌}
use mathlib.Core.Bool.{true}
use lib.ListN.{length}
use borrow.Author.Tests.{ne_eqb, leb-true}
use mathlib.Core.Logic.{inl, inr}
use Rattle.values.specs.Vals.{ref_at}
use Rattle.records.proofs.Quick.{val-plain, val_hist}
use Rattle.records.proofs.head_val.Goals as goal

pub returns-then-f-eq0 : goal.returns-then-f-eq0
returns-then-f-eq0 c = inr (c.bytes_at.ensures ∙ sym (val-plain c.args.t.now c.args.at true c.if-at-t.true c.if-f-eq0.true))

pub read_u32-count-requires : goal.read_u32-count-requires
read_u32-count-requires c = omega (arith, leb-true (c.args.at + 1 + 14) (length c.args.t.now) (sym c.room.ensures ∙ c.if-room.true))

pub read_u64-requires : goal.read_u64-requires
read_u64-requires c = omega (arith, leb-true (c.args.at + 1 + 14) (length c.args.t.now) (sym c.room.ensures ∙ c.if-room.true))

pub read_u16-requires : goal.read_u16-requires
read_u16-requires c = omega (arith, leb-true (c.args.at + 1 + 14) (length c.args.t.now) (sym c.room.ensures ∙ c.if-room.true))

pub returns-then-count-ne0 : goal.returns-then-count-ne0
unfolding ref_at
returns-then-count-ne0 c = inr (c.bytes_at-then-count-ne0.ensures ∙ sym (val_hist c.args.t.now c.args.at c.if-at-t.true c.if-f-eq1.true ∙ simp (← c.room.ensures, c.if-room.true, ← c.read_u32-count.ensures, ne_eqb _ _ c.if-count-ne0.true, ← c.read_u64.ensures, ← c.read_u16.ensures)))

pub returns-else-count-ne0 : goal.returns-else-count-ne0
returns-else-count-ne0 c = inl refl

pub returns-else-room : goal.returns-else-room
returns-else-room c = inl refl

pub returns-else-f-eq1 : goal.returns-else-f-eq1
returns-else-f-eq1 c = inl refl

pub returns-else-at-t : goal.returns-else-at-t
returns-else-at-t c = inl refl
