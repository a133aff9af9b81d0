-- `records::val_in` meets its contract. Assumes nothing.
use native.Mathlib.Omega.{arith}
use mathlib.Core.Path.{sym, ap, ◌∙◌}
use Rattle.std.proofs.Common.{Some}
use lib.ListN.{take}
use lib.Dec.{eqb}
use Rattle.records.specs.Records.{val_in}
use Rattle.records.proofs.Places.{remote-place}
use Rattle.records.proofs.Inside.{ends}
use Rattle.records.proofs.val_in.Goals as goal

pub slice_bounds-decode_from-end : goal.slice_bounds-decode_from-end
slice_bounds-decode_from-end c = sym (ends c.args.s.now c.args.b c.requires)

pub overflow_cast-size : goal.overflow_cast-size
overflow_cast-size c = omega (arith, (remote-place (take c.args.b.end c.args.s.now) c.args.at (eqb c.args.b.kind 0) c.in-Remote.hist c.in-Remote.addr c.in-Remote.size c.in-Remote.next (sym c.decode_from.ensures ∙ c.in_ok-v.was ∙ ap Some c.in-Remote.is)).small)

pub returns-in_err-q-in-Remote : goal.returns-in_err-q-in-Remote
unfolding val_in
returns-in_err-q-in-Remote c = c.from_residual-in_err-q-in-Remote.ensures ∙ simp (← c.decode_from.ensures, c.in_ok-v.was, c.in-Remote.is, ← c.remote_at.ensures, c.in_err-q-in-Remote.was)

pub returns-in-Inline : goal.returns-in-Inline
unfolding val_in
returns-in-Inline c = simp (← c.decode_from.ensures, c.in_ok-v.was, c.in-Inline.is)

pub returns-in_ok-q-in-Remote : goal.returns-in_ok-q-in-Remote
unfolding val_in
returns-in_ok-q-in-Remote c = simp (← c.decode_from.ensures, c.in_ok-v.was, c.in-Remote.is, ← c.remote_at.ensures, c.in_ok-q-in-Remote.was)

pub returns-in_err-v : goal.returns-in_err-v
unfolding val_in
returns-in_err-v c = c.from_residual.ensures ∙ simp (← c.decode_from.ensures, c.in_err-v.was)
