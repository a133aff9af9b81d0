-- `capi::ct_step` meets its contract. Assumes nothing.
use Rattle.capi.proofs.ct_step.Goals as goal

pub returns : goal.returns
returns c = record {
  value = c.step.ensures.number;
  walk_after = c.step.ensures.moved;
  out_after = c.step.ensures.told;
}
