-- `records::child_at` meets its contract. Assumes nothing.
use native.Mathlib.Omega.{arith}
use mathlib.Core.Path.{sym, ap, ◌∙◌}
use Rattle.records.specs.Records.{rec_at, child_of}
use Rattle.records.proofs.Inside.{ends}
use Rattle.records.proofs.Quick.{child_none, child-place, child-long, child_cut, child-is}
use Rattle.records.proofs.child_at.Goals as goal

pub returns-in_err-p : goal.returns-in_err-p
unfolding rec_at
returns-in_err-p c = simp (c.from_residual.ensures, ← c.slot_at.ensures, c.in_err-p.was)

pub slice_bounds-child_key-end : goal.slice_bounds-child_key-end
slice_bounds-child_key-end c = sym (ends c.args.s.now c.args.b c.requires.inside)

pub returns-in_err-k : goal.returns-in_err-k
returns-in_err-k c = child_none c.args.s.now c.args.b c.args.i c.in_ok-p.p c.requires.kind_value (sym c.slot_at.ensures ∙ c.in_ok-p.was) (sym c.child_key.ensures ∙ c.in_err-k.was) ∙ ap child_of (sym c.from_residual-in_err-k.ensures)

pub overflow_add-b : goal.overflow_add-b
overflow_add-b c = omega (arith, child-place c.args.s.now c.args.b c.args.i c.in_ok-p.p c.requires.kind_value (sym c.slot_at.ensures ∙ c.in_ok-p.was) c.in_ok-k.k.ver_at c.in_ok-k.k.rest_at c.in_ok-k.k.rest_len (sym c.child_key.ensures ∙ c.in_ok-k.was) c.requires.inside, c.requires.inside.slots, c.requires.inside.records, c.requires.inside.payload, c.requires.inside.arena, c.requires.inside.prefix, c.well_formed)

pub returns-then-b-k-gt-MAX_KEY : goal.returns-then-b-k-gt-MAX_KEY
returns-then-b-k-gt-MAX_KEY c = child-long c.args.s.now c.args.b c.args.i c.in_ok-p.p c.requires.kind_value (sym c.slot_at.ensures ∙ c.in_ok-p.was) c.in_ok-k.k.ver_at c.in_ok-k.k.rest_at c.in_ok-k.k.rest_len (sym c.child_key.ensures ∙ c.in_ok-k.was) c.if-b-k-gt-MAX_KEY.true

pub overflow_add-k : goal.overflow_add-k
overflow_add-k c = omega (arith, child-place c.args.s.now c.args.b c.args.i c.in_ok-p.p c.requires.kind_value (sym c.slot_at.ensures ∙ c.in_ok-p.was) c.in_ok-k.k.ver_at c.in_ok-k.k.rest_at c.in_ok-k.k.rest_len (sym c.child_key.ensures ∙ c.in_ok-k.was) c.requires.inside, c.requires.inside.payload, c.requires.inside.arena, c.well_formed)

pub overflow_add-k-2 : goal.overflow_add-k-2
overflow_add-k-2 c = omega (arith, child-place c.args.s.now c.args.b c.args.i c.in_ok-p.p c.requires.kind_value (sym c.slot_at.ensures ∙ c.in_ok-p.was) c.in_ok-k.k.ver_at c.in_ok-k.k.rest_at c.in_ok-k.k.rest_len (sym c.child_key.ensures ∙ c.in_ok-k.was) c.requires.inside, c.requires.inside.slots, c.requires.inside.payload, c.requires.inside.arena, c.well_formed)

pub returns-then-b-k : goal.returns-then-b-k
returns-then-b-k c = child_cut c.args.s.now c.args.b c.args.i c.in_ok-p.p c.requires.kind_value (sym c.slot_at.ensures ∙ c.in_ok-p.was) c.in_ok-k.k.ver_at c.in_ok-k.k.rest_at c.in_ok-k.k.rest_len (sym c.child_key.ensures ∙ c.in_ok-k.was) c.if-b-k-gt-MAX_KEY.false c.if-b-k.true

pub returns : goal.returns
returns c = child-is c.args.s.now c.args.b c.args.i c.in_ok-p.p c.requires.kind_value (sym c.slot_at.ensures ∙ c.in_ok-p.was) c.in_ok-k.k.ver_at c.in_ok-k.k.rest_at c.in_ok-k.k.rest_len (sym c.child_key.ensures ∙ c.in_ok-k.was) c.if-b-k-gt-MAX_KEY.false c.if-b-k.false
