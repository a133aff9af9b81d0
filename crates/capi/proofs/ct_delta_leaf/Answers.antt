-- `capi::ct_delta_leaf` meets its contract. Assumes nothing.
use Rattle.capi.proofs.Told.{leaf_told}
use Rattle.capi.proofs.ct_delta_leaf.Goals as goal

pub returns : goal.returns
returns c = let all = leaf_told c.args.limit c.args.group c.args.lsn c.args.checkpoint c.args.arena.now c.args.next c.args.key.now c.args.value.now c.args.out.now c.new.ensures c.from_key_val-x.ensures.value c.from_key_val-x.ensures.a_after (c.tell_built.ensures.value, c.tell_built.ensures.out_after) in record {
  value = all.0;
  arena_after = all.1.0;
  out_after = all.1.1;
}
