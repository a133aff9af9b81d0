-- `base::new_leaf` meets its contract. Assumes nothing.
use mathlib.Core.Path.{refl}
use mathlib.Core.List.{[]}
use Rattle.build_image.specs.Call.{call_of}
use Rattle.base.specs.Calls.{bounds_from}
use Rattle.base.proofs.Calls.{next-footing, held, bounds_are, list_bad, at_first, list-opens, bounds_ok_lem, sane, new_one, new_two, new_three, new_list}
use Rattle.base.proofs.new_leaf.Goals as goal

pub returns-then-not-limits_ok : goal.returns-then-not-limits_ok
returns-then-not-limits_ok c = let all = new_one _ _ _ (call_of c.args.limit c.args.budget c.args.group c.args.txid c.args.lsn c.args.checkpoint) (bounds_from c.args.lo.now c.args.hi.now c.args.sibling.0) _ c.limits_ok.ensures (c.if-not-limits_ok.true) in record {
  value = all.0;
  a_after = all.1;
}

pub returns-then-not-next_ok : goal.returns-then-not-next_ok
returns-then-not-next_ok c = let all = new_two _ _ _ (call_of c.args.limit c.args.budget c.args.group c.args.txid c.args.lsn c.args.checkpoint) (bounds_from c.args.lo.now c.args.hi.now c.args.sibling.0) _ c.limits_ok.ensures (c.if-not-limits_ok.false) _ c.next_ok.ensures (c.if-not-next_ok.true) in record {
  value = all.0;
  a_after = all.1;
}

pub returns-in_default : goal.returns-in_default
returns-in_default c = let all = new_three _ _ _ (call_of c.args.limit c.args.budget c.args.group c.args.txid c.args.lsn c.args.checkpoint) (bounds_from c.args.lo.now c.args.hi.now c.args.sibling.0) _ c.limits_ok.ensures (c.if-not-limits_ok.false) _ c.next_ok.ensures (c.if-not-next_ok.false) (list_bad _ _ _ _ c.open_records-b.ensures c.in_default.is) in record {
  value = all.0;
  a_after = all.1;
}

pub build_list-requires : goal.build_list-requires
build_list-requires c = record {
  from_value = at_first _ [] _ _ c.open_records-b.ensures _ c.in-Some.is;
  lo_value = (c.boundary_of-x.ensures, c.boundary_of-y.ensures);
  next_in_bounds = next-footing _ _ _ c.next_ok.ensures (c.if-not-next_ok.false);
  held = held c.args.lo.now c.args.hi.now _ _ _ _ _ c.boundary_of-x.ensures c.boundary_of-y.ensures c.calc_prefix-p.ensures _ (bounds_ok_lem c.args.limit c.args.budget c.args.lo.now c.args.hi.now _ c.limits_ok.ensures (c.if-not-limits_ok.false)) refl;
  sane = rw c.call_of-m.ensures (sane c.args.limit c.args.budget c.args.lo.now c.args.hi.now _ c.limits_ok.ensures (c.if-not-limits_ok.false) _ _ _);
}

pub returns : goal.returns
returns c = let all = new_list _ _ _ (call_of c.args.limit c.args.budget c.args.group c.args.txid c.args.lsn c.args.checkpoint) (bounds_from c.args.lo.now c.args.hi.now c.args.sibling.0) _ c.limits_ok.ensures (c.if-not-limits_ok.false) _ c.next_ok.ensures (c.if-not-next_ok.false) (list-opens c.args.list.now _ _ _ c.open_records-b.ensures _ c.in-Some.is) _ _ _ _ c.call_of-m.ensures (bounds_are c.args.lo.now c.args.hi.now _ _ _ _ _ c.boundary_of-x.ensures c.boundary_of-y.ensures c.calc_prefix-p.ensures) c.build_list.ensures.value c.build_list.ensures.a_after in record {
  value = all.0;
  a_after = all.1;
}
