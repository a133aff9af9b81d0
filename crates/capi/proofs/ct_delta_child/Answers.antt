-- `capi::ct_delta_child` meets its contract. Assumes nothing.
use Rattle.delta.specs.Refused as refused
use Rattle.c_answers.specs.Answers.{child_words}
use Rattle.c_words.proofs.Laws.{told}
use Rattle.capi.proofs.ct_delta_child.Goals as goal

pub returns : goal.returns
returns c = let all = told refused.child_number child_words _ c.index-x.ensures (c.tell_child.ensures.value, c.tell_child.ensures.out_after) in record {
  value = all.0;
  out_after = all.1;
}
