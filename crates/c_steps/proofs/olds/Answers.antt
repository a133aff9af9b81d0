-- `c_steps::olds` meets its contract. Assumes nothing.
use Rattle.std.proofs.Common.{Some}
use native.Mathlib.Omega.{arith}
use Prim.Native.Nat.{◌+◌}
use mathlib.Core.Path.{◌≡◌, sym, ap, ◌∙◌}
use Rattle.frames.specs.declared.Body.{Body}
use Rattle.records.proofs.Quick.{quick_is}
use Rattle.records.proofs.Inside.{ver-inside}
use Rattle.walks.proofs.Lying.{body_is, body-inside}
use Rattle.c_steps.proofs.Ways.{olding_begin, olding_next, olds_none, olds_are, rec_none}
use Rattle.c_steps.proofs.olds.Goals as goal

pub returns-then-page-w : goal.returns-then-page-w
returns-then-page-w c = let all = olds_none _ _ _ _ _ in record {
  upper_bound = all.0;
  result_bound = all.1.0;
  out_unchanged = all.1.1.0;
  filling = all.1.1.1;
}

pub returns-in_default : goal.returns-in_default
returns-in_default c = let all = olds_none _ _ _ _ _ in record {
  upper_bound = all.0;
  result_bound = all.1.0;
  out_unchanged = all.1.1.0;
  filling = all.1.1.1;
}

pub loop-n-init : goal.loop-n-init
loop-n-init c = olding_begin c.args.s.now c.args.w c.args.out.now c.args.first c.args.room c.in-Some.b c.least-most.result (sym c.body_of.ensures ∙ c.in-Some.is) (omega (arith, c.least-most.ensures.upper_bound, c.requires.0)) c.least-most.ensures.upper_bound_2 (omega (arith, c.if-page-w.false))

pub overflow_add-w : goal.overflow_add-w
overflow_add-w c = omega (arith, c.loop-n.invariant.below, c.well_formed)

pub quick_old-requires : goal.quick_old-requires
quick_old-requires c = record {
  inside = body-inside c.args.s.now c.args.w.older.page 2 c.in-Some.b (sym c.body_of.ensures ∙ c.in-Some.is);
  kind_value = ap (λ (y : Body). y.kind) (sym (body_is c.args.s.now c.args.w.older.page 2 c.in-Some.b (sym c.body_of.ensures ∙ c.in-Some.is)));
}

pub returns-in_default-quick_old : goal.returns-in_default-quick_old
returns-in_default-quick_old c = let all = olds_are _ _ _ _ _ _ _ _ _ _ c.loop-n.invariant in record {
  upper_bound = all.0;
  result_bound = all.1.0;
  out_unchanged = all.1.1.0;
  filling = all.1.1.1;
}

pub tell_rec-requires : goal.tell_rec-requires
tell_rec-requires c = let i = c.loop-n.invariant in record {
  k_in_bounds = omega (arith, i.fills.place, i.fills.long, c.least-most.ensures.upper_bound, c.requires.1);
  ver_at_in_bounds = ver-inside c.args.s.now c.in-Some.b (c.args.w.older.slot + c.loop-n.n) c.in-Some-quick_old.r (body-inside c.args.s.now c.args.w.older.page 2 c.in-Some.b (sym c.body_of.ensures ∙ c.in-Some.is)) (λ z. omega (arith, ap (λ (y : Body). y.kind) (sym (body_is c.args.s.now c.args.w.older.page 2 c.in-Some.b (sym c.body_of.ensures ∙ c.in-Some.is))), z)) (quick_is (Some c.in-Some-quick_old.r) c.quick_old.ensures c.in-Some-quick_old.is (rec_none c.in-Some-quick_old.r));
}

pub overflow_add-at : goal.overflow_add-at
overflow_add-at c = omega (arith, c.loop-n.invariant.fills.place, c.least-most.ensures.upper_bound, c.requires.1, c.well_formed)

pub loop-n-preserved : goal.loop-n-preserved
loop-n-preserved c = olding_next _ _ _ _ _ _ _ _ _ _ c.loop-n.invariant c.in-Some-quick_old.r (omega arith) (quick_is (Some c.in-Some-quick_old.r) c.quick_old.ensures c.in-Some-quick_old.is (rec_none c.in-Some-quick_old.r)) c.tell_rec.ensures

pub returns : goal.returns
returns c = let e : c.loop-n.n ≡ c.least-most.result = omega arith in
    let all = rw e at (olds_are _ _ _ _ _ _ _ _ _ _ c.loop-n.invariant) in record {
      upper_bound = all.0;
      result_bound = all.1.0;
      out_unchanged = all.1.1.0;
      filling = all.1.1.1;
    }
