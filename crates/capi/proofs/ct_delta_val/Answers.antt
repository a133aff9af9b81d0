-- `capi::ct_delta_val` meets its contract. Assumes nothing.
use Rattle.delta.specs.Refused as refused
use Rattle.c_answers.specs.Answers.{value_words}
use Rattle.c_words.proofs.Laws.{told}
use Rattle.capi.proofs.ct_delta_val.Goals as goal

pub returns : goal.returns
returns c = let all = told refused.value_number value_words _ c.val-x.ensures (c.tell_value.ensures.value, c.tell_value.ensures.out_after) in record {
  value = all.0;
  out_after = all.1;
}
