-- `records::quick_value` meets its contract. Assumes nothing.
use Rattle.values.specs.declared.Val.{Val}
use Rattle.std.proofs.Common.{Some}
use mathlib.Core.Path.{◌≡◌, refl, sym, ap, ◌∙◌}
use mathlib.Core.Logic.{inl, inr}
use mathlib.Core.Bool.{true}
use borrow.Author.Tests.{eq-eqb}
use lib.ListN.{take}
use Rattle.values.specs.Vals.{val_at}
use Rattle.records.specs.Records.{val_in}
use Rattle.records.proofs.Inside.{ends}
use Rattle.records.proofs.Places.{inline_no}
use Rattle.records.proofs.Quick.{quick_is}
use Rattle.records.proofs.quick_value.Goals as goal

pub slice_bounds-head_val-end : goal.slice_bounds-head_val-end
slice_bounds-head_val-end c = sym (ends c.args.s.now c.args.b c.requires.inside)

pub returns-in-Inline : goal.returns-in-Inline
unfolding val_in
returns-in-Inline c = let e : val_at (take c.args.b.end c.args.s.now) c.args.at true ≡ Some (Val.Inline c.in-Inline.hist c.in-Inline.p c.in-Inline.size c.in-Inline.next) = quick_is _ c.head_val.ensures (c.in_ok-v.was ∙ ap Some c.in-Inline.is) (inline_no _ _ _ _) in
    inr (simp (eq-eqb _ _ c.requires.kind_value, e))

pub returns-in_default : goal.returns-in_default
returns-in_default c = inl refl

pub returns-in_err-v : goal.returns-in_err-v
returns-in_err-v c = inl c.from_residual.ensures
