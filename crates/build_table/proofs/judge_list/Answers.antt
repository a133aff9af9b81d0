-- `build_table::judge_list` meets its contract. Assumes nothing.
use native.Mathlib.Omega.{arith}
use mathlib.Core.Path.{ap}
use Rattle.build_bounds.specs.declared.Boundary.{Boundary}
use Rattle.build_sweep.proofs.Ending.{first_record}
use Rattle.build_table.proofs.Listing.{accepted, record_ends, list-weighed, not_enclosed, not_two}
use Rattle.build_table.proofs.Faults.{leaf_not, leaf_apart}
use Rattle.build_table.proofs.judge_list.Goals as goal

pub sweep_list-s-requires : goal.sweep_list-s-requires
sweep_list-s-requires c = record {
  limit_le_max_limit = (c.requires.sane.limit, c.requires.sane.budget);
  next_bound = omega (arith, c.requires.next_le_len.0, c.requires.next_le_len.1);
}

pub refused-requires : goal.refused-requires
refused-requires c = c.requires.held

pub returns-in_default : goal.returns-in_default
returns-in_default c = leaf_not c.args.list.now c.args.footing.now c.args.len c.args.next c.args.lo.now c.args.hi.now c.args.e c.requires.held c.args.from _ c.refused.ensures c.args.m c.requires.from_value _ _ _ _ _ c.sweep_list-s.ensures c.in_default.is

pub overflow_add-t : goal.overflow_add-t
overflow_add-t c = let z = (accepted c.args.list.now c.args.e.prefix c.args.next c.args.m.limit c.args.m.budget c.sweep_list-s.result _ _ _ _ c.sweep_list-s.ensures c.in-Some.is) in omega (arith, z.bounded.heads, z.bounded.olds)

pub spans_ends-requires : goal.spans_ends-requires
spans_ends-requires c = record_ends c.args.list.now _ _ _ (accepted c.args.list.now c.args.e.prefix c.args.next c.args.m.limit c.args.m.budget c.sweep_list-s.result _ _ _ _ c.sweep_list-s.ensures c.in-Some.is).ended

pub weigh-requires : goal.weigh-requires
weigh-requires c = let z = (accepted c.args.list.now c.args.e.prefix c.args.next c.args.m.limit c.args.m.budget c.sweep_list-s.result _ _ _ _ c.sweep_list-s.ensures c.in-Some.is) in record {
  x_le_max_key = (omega (arith, c.requires.held.footing, ap (λ (x : Boundary). x.len) c.requires.lo_value.0), omega (arith, c.requires.held.high, ap (λ (x : Boundary). x.len) c.requires.lo_value.1));
  bounded = z.bounded;
  end_bound = (omega (arith, z.end, c.requires.next_le_len.0, c.requires.next_le_len.1), z.count);
}

pub returns-then-spans_ends : goal.returns-then-spans_ends
returns-then-spans_ends c = list-weighed c.args.list.now c.args.footing.now c.args.len c.args.next c.args.lo.now c.args.hi.now c.args.e c.requires.held c.requires.lo_value.0 c.requires.lo_value.1 c.args.m _ _ _ _ (accepted c.args.list.now c.args.e.prefix c.args.next c.args.m.limit c.args.m.budget c.sweep_list-s.result _ _ _ _ c.sweep_list-s.ensures c.in-Some.is) _ c.spans_ends.ensures c.if-spans_ends.true _ c.weigh.ensures

pub refused-requires-2 : goal.refused-requires-2
refused-requires-2 c = c.requires.held

pub returns : goal.returns
returns c = leaf_apart c.args.list.now c.args.footing.now c.args.len c.args.next c.args.lo.now c.args.hi.now c.args.e c.requires.held c.args.from _ c.refused-2.ensures c.args.m c.requires.from_value (not_enclosed c.args.list.now c.args.footing.now 0 not_two c.args.lo.now c.args.hi.now c.args.e c.requires.lo_value.0 c.requires.lo_value.1 _ _ _ (accepted c.args.list.now c.args.e.prefix c.args.next c.args.m.limit c.args.m.budget c.sweep_list-s.result _ _ _ _ c.sweep_list-s.ensures c.in-Some.is).ended (first_record c.args.list.now) _ c.spans_ends.ensures c.if-spans_ends.false)
