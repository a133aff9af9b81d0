-- `delta::val_in` meets its contract. Assumes nothing.
use Rattle.std.proofs.Common.{Some}
use native.Mathlib.Omega.{arith}
use mathlib.Core.Path.{sym, ◌∙◌, ap}
use mathlib.Core.Bool.{false}
use lib.ListN.{take}
use lib.Seq.{length-take-le}
use Rattle.records.proofs.Places.{remote-place}
use Rattle.delta.specs.Read.{val_in}
use Rattle.frames.specs.Layout.{addr}
use Rattle.delta.proofs.val_in.Goals as goal

pub slice_bounds-decode_from-end : goal.slice_bounds-decode_from-end
slice_bounds-decode_from-end c = sym (length-take-le c.args.d.end c.args.s.now c.requires)

pub overflow_cast-size : goal.overflow_cast-size
overflow_cast-size c = omega (arith, (remote-place (take c.args.d.end c.args.s.now) c.args.d.val_at false _ c.in-Remote.addr c.in-Remote.size c.in-Remote.next (sym c.decode_from.ensures ∙ c.in-Some.is ∙ ap Some c.in-Remote.is)).small)

pub returns-in_default-remote_at : goal.returns-in_default-remote_at
unfolding val_in
returns-in_default-remote_at c = simp (← c.decode_from.ensures, c.in-Some.is, c.in-Remote.is, ← c.remote_at.ensures, c.in_default-remote_at.is)

pub returns-in-Inline : goal.returns-in-Inline
unfolding val_in
returns-in-Inline c = simp (← c.decode_from.ensures, c.in-Some.is, c.in-Inline.is, c.value_to.ensures)

pub returns-in-Some-remote_at : goal.returns-in-Some-remote_at
unfolding val_in
returns-in-Some-remote_at c = simp (← c.decode_from.ensures, c.in-Some.is, c.in-Remote.is, ← c.remote_at.ensures, c.in-Some-remote_at.is, c.value_to-in-Remote.ensures)

pub returns-in_default : goal.returns-in_default
unfolding val_in
returns-in_default c = simp (← c.decode_from.ensures, c.in_default.is)
