-- `capi::ct_steps` meets its contract. Assumes nothing.
use Rattle.c_steps.proofs.Running.{told-steps}
use Rattle.capi.proofs.ct_steps.Goals as goal

pub returns : goal.returns
returns c = let all = told-steps c.args.arena.now c.args.walk.now c.args.out.now c.room_in-room.ensures.value c.walk_in-w.ensures c.fill-x.ensures.value c.fill-x.ensures.out_after (c.tell_run.ensures.value, (c.tell_run.ensures.walk_after, c.tell_run.ensures.out_after)) in record {
  value = all.0;
  walk_after = all.1.0;
  out_after = all.1.1;
}
