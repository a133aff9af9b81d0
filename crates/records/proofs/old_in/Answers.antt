-- `records::old_in` meets its contract. Assumes nothing.
use native.Mathlib.Omega.{arith}
use Prim.Native.Nat.{◌+◌}
use mathlib.Core.Path.{refl, sym, ap, ◌∙◌}
use Rattle.std.proofs.Common.{Some}
use borrow.Author.Tests.{leb-true}
use mathlib.Core.Logic.{inl, inr}
use Rattle.records.proofs.Inside.{ends}
use Rattle.records.proofs.Places.{inline_no}
use Rattle.records.proofs.Quick.{quick_is, old-rec}
use Rattle.records.proofs.old_in.Goals as goal

pub slice_bounds-old_val-end : goal.slice_bounds-old_val-end
slice_bounds-old_val-end c = sym (ends c.args.s.now c.args.b c.requires.inside)

pub overflow_add-p : goal.overflow_add-p
overflow_add-p c = omega (arith, leb-true (c.args.p + 12) c.args.b.end (sym c.room.ensures ∙ c.if-room.true))

pub overflow_add-result : goal.overflow_add-result
overflow_add-result c = omega (arith, leb-true (c.args.p + 12) c.args.b.end (sym c.room.ensures ∙ c.if-room.true))

pub returns-in-Inline : goal.returns-in-Inline
returns-in-Inline c = inr (sym (old-rec c.args.s.now c.args.b c.args.p c.in-Inline.hist c.in-Inline.at c.in-Inline.size c.in-Inline.next c.requires.inside c.requires.kind_value (leb-true (c.args.p + 12) c.args.b.end (sym c.room.ensures ∙ c.if-room.true)) c.if-b-le-MAX_KEY.true (quick_is _ c.old_val.ensures (c.in_ok-v.was ∙ ap Some c.in-Inline.is) (inline_no _ _ _ _))))

pub returns-in_default : goal.returns-in_default
returns-in_default c = inl refl

pub returns-else-b-le-MAX_KEY : goal.returns-else-b-le-MAX_KEY
returns-else-b-le-MAX_KEY c = inl refl

pub returns-else-room : goal.returns-else-room
returns-else-room c = inl refl

pub returns-in_err-v : goal.returns-in_err-v
returns-in_err-v c = inl c.from_residual.ensures
