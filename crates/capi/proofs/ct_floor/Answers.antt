-- `capi::ct_floor` meets its contract. Assumes nothing.
use Rattle.sst.specs.Refused.{floor_number}
use Rattle.c_answers.specs.Answers.{floor_words}
use Rattle.c_words.proofs.Laws.{told}
use Rattle.capi.proofs.ct_floor.Goals as goal

pub returns : goal.returns
returns c = let all = told floor_number floor_words _ c.floor_pid_by_raw-x.ensures (c.tell_floor.ensures.value, c.tell_floor.ensures.out_after) in record {
  value = all.0;
  out_after = all.1;
}
