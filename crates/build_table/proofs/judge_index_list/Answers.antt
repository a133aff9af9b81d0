-- `build_table::judge_index_list` meets its contract. Assumes nothing.
use native.Mathlib.Omega.{arith}
use mathlib.Core.Path.{ap}
use Rattle.build_bounds.specs.declared.Boundary.{Boundary}
use Rattle.build_sweep.proofs.Ending.{first_index}
use Rattle.build_table.proofs.Listing.{index_accepted, index_ends, index_list-weighed, not_enclosed, one_two}
use Rattle.build_table.proofs.Faults.{index_not, index_apart}
use Rattle.build_table.proofs.judge_index_list.Goals as goal

pub refused-requires : goal.refused-requires
refused-requires c = c.requires.held

pub returns-in_default : goal.returns-in_default
returns-in_default c = index_not c.args.list.now c.args.footing.now c.args.len c.args.next c.args.lo.now c.args.hi.now c.args.e c.requires.held c.args.from _ c.refused.ensures c.requires.from_value _ _ c.sweep_index-s.ensures c.in_default.is

pub spans_ends-requires : goal.spans_ends-requires
spans_ends-requires c = index_ends c.args.list.now _ _ _ (index_accepted c.args.list.now c.args.e.prefix c.sweep_index-s.result _ _ _ _ c.sweep_index-s.ensures c.in-Some.is).ended

pub weigh_index-requires : goal.weigh_index-requires
weigh_index-requires c = let z = (index_accepted c.args.list.now c.args.e.prefix c.sweep_index-s.result _ _ _ _ c.sweep_index-s.ensures c.in-Some.is) in record {
  x_le_max_key = (omega (arith, c.requires.held.footing, ap (λ (x : Boundary). x.len) c.requires.lo_value.0), omega (arith, c.requires.held.high, ap (λ (x : Boundary). x.len) c.requires.lo_value.1));
  n_le_max_entries = (z.ended.few, z.small);
  next_le_len = c.requires.next_le_len;
}

pub returns-then-spans_ends : goal.returns-then-spans_ends
returns-then-spans_ends c = index_list-weighed c.args.list.now c.args.footing.now c.args.len c.args.next c.args.lo.now c.args.hi.now c.args.e c.requires.held c.requires.lo_value.0 c.requires.lo_value.1 _ _ _ _ (index_accepted c.args.list.now c.args.e.prefix c.sweep_index-s.result _ _ _ _ c.sweep_index-s.ensures c.in-Some.is) _ c.spans_ends.ensures c.if-spans_ends.true _ c.weigh_index.ensures

pub refused-requires-2 : goal.refused-requires-2
refused-requires-2 c = c.requires.held

pub returns : goal.returns
returns c = index_apart c.args.list.now c.args.footing.now c.args.len c.args.next c.args.lo.now c.args.hi.now c.args.e c.requires.held c.args.from _ c.refused-2.ensures c.requires.from_value (not_enclosed c.args.list.now c.args.footing.now 1 one_two c.args.lo.now c.args.hi.now c.args.e c.requires.lo_value.0 c.requires.lo_value.1 _ _ _ (index_accepted c.args.list.now c.args.e.prefix c.sweep_index-s.result _ _ _ _ c.sweep_index-s.ensures c.in-Some.is).ended (first_index c.args.list.now) _ c.spans_ends.ensures c.if-spans_ends.false)
