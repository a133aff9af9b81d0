-- `records::quick_old` meets its contract. Assumes nothing.
use mathlib.Core.Path.{refl, sym, ◌∙◌}
use mathlib.Core.Logic.{inl}
use Rattle.records.proofs.Quick.{quick_on, slot-rec}
use Rattle.records.proofs.quick_old.Goals as goal

pub returns-in_err-p : goal.returns-in_err-p
returns-in_err-p c = inl c.from_residual.ensures

pub returns : goal.returns
returns c = quick_on (slot-rec c.args.s.now c.args.b c.args.i c.in_ok-p.p (sym c.slot_at.ensures ∙ c.in_ok-p.was)) c.old_in.ensures
