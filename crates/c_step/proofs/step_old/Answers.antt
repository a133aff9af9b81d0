-- `c_step::step_old` meets its contract. Assumes nothing.
use Rattle.std.proofs.Common.{Some}
use native.Mathlib.Omega.{arith}
use mathlib.Core.Path.{sym, ap, ◌∙◌}
use Rattle.frames.specs.declared.Body.{Body}
use Rattle.records.proofs.Quick.{quick_is}
use Rattle.records.proofs.Inside.{at_slot, ver-inside}
use Rattle.walks.proofs.Lying.{body_is, body-inside}
use Rattle.c_steps.proofs.Ways.{rec_none}
use Rattle.c_step.proofs.One.{takes_not, took-old}
use Rattle.c_step.proofs.step_old.Goals as goal

pub quick_old-requires : goal.quick_old-requires
quick_old-requires c = let o = sym c.body_of.ensures ∙ c.in-Some.is in
    record {
      inside = body-inside c.args.s.now c.args.w.older.page 2 c.in-Some.b o;
      kind_value = ap (λ (y : Body). y.kind) (sym (body_is c.args.s.now c.args.w.older.page 2 c.in-Some.b o));
    }

pub tell_rec-requires : goal.tell_rec-requires
tell_rec-requires c = let o = sym c.body_of.ensures ∙ c.in-Some.is in
    let q = quick_is (Some c.in-Some-quick_old.r) c.quick_old.ensures c.in-Some-quick_old.is (rec_none c.in-Some-quick_old.r) in
    record {
      k_in_bounds = omega (arith, c.requires.in_bounds_2);
      ver_at_in_bounds = ver-inside c.args.s.now c.in-Some.b c.args.w.older.slot c.in-Some-quick_old.r (body-inside c.args.s.now c.args.w.older.page 2 c.in-Some.b o) (λ z. omega (arith, ap (λ (y : Body). y.kind) (sym (body_is c.args.s.now c.args.w.older.page 2 c.in-Some.b o)), z)) q;
    }

pub overflow_add-older : goal.overflow_add-older
overflow_add-older c = let o = sym c.body_of.ensures ∙ c.in-Some.is in
    let q = quick_is (Some c.in-Some-quick_old.r) c.quick_old.ensures c.in-Some-quick_old.is (rec_none c.in-Some-quick_old.r) in
    let i = body-inside c.args.s.now c.args.w.older.page 2 c.in-Some.b o in
    omega (arith, at_slot c.args.s.now c.in-Some.b c.args.w.older.slot c.in-Some-quick_old.r q, i.slots, i.records, i.payload, i.arena, c.well_formed)

pub returns : goal.returns
returns c = let o = sym c.body_of.ensures ∙ c.in-Some.is in
    let q = quick_is (Some c.in-Some-quick_old.r) c.quick_old.ensures c.in-Some-quick_old.is (rec_none c.in-Some-quick_old.r) in
    took-old c.args.s.now c.args.walk.now c.args.out.now c.requires.w_value c.requires.left_nonzero c.in-Some.b o c.in-Some-quick_old.r q c.put_older.ensures c.tell_rec.ensures
