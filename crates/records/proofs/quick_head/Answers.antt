-- `records::quick_head` meets its contract. Assumes nothing.
use native.Mathlib.Omega.{arith}
use mathlib.Core.Path.{refl, sym, ◌∙◌}
use mathlib.Core.Logic.{inl}
use Rattle.records.proofs.Inside.{slot-inside}
use Rattle.records.proofs.Quick.{quick_on, slot-rec}
use Rattle.records.proofs.quick_head.Goals as goal

pub returns-in_err-p : goal.returns-in_err-p
returns-in_err-p c = inl c.from_residual.ensures

pub head_in-requires : goal.head_in-requires
head_in-requires c = record {
  inside = c.requires.inside;
  kind_value = c.requires.kind_value;
  p_lt_end = omega (arith, slot-inside c.args.s.now c.args.b c.args.i c.in_ok-p.p (sym c.slot_at.ensures ∙ c.in_ok-p.was));
}

pub returns : goal.returns
returns c = quick_on (slot-rec c.args.s.now c.args.b c.args.i c.in_ok-p.p (sym c.slot_at.ensures ∙ c.in_ok-p.was)) c.head_in.ensures
