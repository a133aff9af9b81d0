-- `records::head_in` meets its contract. Assumes nothing.
use native.Mathlib.Omega.{arith}
use mathlib.Core.Path.{refl, sym, ◌∙◌}
use mathlib.Core.Logic.{inl, inr}
use Rattle.records.proofs.Inside.{val_no}
use Rattle.records.proofs.Quick.{quick_is, short_head}
use Rattle.records.proofs.head_in.Goals as goal

pub returns-then-n-eq0 : goal.returns-then-n-eq0
returns-then-n-eq0 c = inl refl

pub overflow_add-p-2 : goal.overflow_add-p-2
overflow_add-p-2 c = omega (arith, (c.quick_key-n.ensures c.if-n-eq0.false).inside)

pub returns-in_err-val : goal.returns-in_err-val
returns-in_err-val c = inl c.from_residual.ensures

pub overflow_sub-result : goal.overflow_sub-result
overflow_sub-result c = omega (arith, (c.quick_key-n.ensures c.if-n-eq0.false).long)

pub returns : goal.returns
returns c = inr (sym (short_head c.args.s.now c.args.b c.args.p _ c.in_ok-val.val.hist c.in_ok-val.val.val_at c.in_ok-val.val.val_len c.in_ok-val.val.remote c.in_ok-val.val.next c.requires.kind_value (c.quick_key-n.ensures c.if-n-eq0.false) (quick_is _ c.quick_value.ensures c.in_ok-val.was (val_no _ _ _ _ _))))
