use mathlib.Core.Path.{refl, sym, ◌∙◌}
use borrow.Author.Tests.{not-true, not-false}
use Rattle.build_image.specs.Call.{call_of}
use Rattle.base.proofs.Calls.{next-footing, limits_sane}
use Rattle.merge.proofs.Answering.{merge_one, merge_two, merge_on}
use Rattle.merge.proofs.merge.Goals as goal

pub returns-then-not-limits_ok : goal.returns-then-not-limits_ok
returns-then-not-limits_ok c = let all = merge_one c.args.a.now c.args.next (call_of c.args.limit c.args.budget c.args.group c.args.txid c.args.lsn c.args.checkpoint) c.args.left c.args.right _ c.limits_ok.ensures (c.if-not-limits_ok.true) in record {
  value = all.0;
  a_after = all.1;
}

pub returns-then-not-next_ok : goal.returns-then-not-next_ok
returns-then-not-next_ok c = let all = merge_two c.args.a.now c.args.next (call_of c.args.limit c.args.budget c.args.group c.args.txid c.args.lsn c.args.checkpoint) c.args.left c.args.right _ c.limits_ok.ensures (c.if-not-limits_ok.false) _ c.next_ok.ensures (c.if-not-next_ok.true) in record {
  value = all.0;
  a_after = all.1;
}

pub merge_kinds-requires : goal.merge_kinds-requires
merge_kinds-requires c = record {
  next_in_bounds = next-footing _ _ _ c.next_ok.ensures (c.if-not-next_ok.false);
  none_value = refl;
  sane = rw c.call_of-m.ensures (limits_sane (call_of c.args.limit c.args.budget c.args.group c.args.txid c.args.lsn c.args.checkpoint) (sym c.limits_ok.ensures ∙ c.if-not-limits_ok.false));
}

pub returns : goal.returns
returns c = let all = merge_on c.args.a.now c.args.next (call_of c.args.limit c.args.budget c.args.group c.args.txid c.args.lsn c.args.checkpoint) c.args.left c.args.right _ c.limits_ok.ensures (c.if-not-limits_ok.false) _ c.next_ok.ensures (c.if-not-next_ok.false) _ c.call_of-m.ensures _ _ c.merge_kinds.ensures.value c.merge_kinds.ensures.a_after in record {
  value = all.0;
  a_after = all.1;
}
