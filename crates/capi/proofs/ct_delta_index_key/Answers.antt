-- `capi::ct_delta_index_key` meets its contract. Assumes nothing.
use Rattle.delta.specs.Refused as refused
use Rattle.c_answers.specs.Answers.{index_key_words}
use Rattle.c_words.proofs.Laws.{told}
use Rattle.capi.proofs.ct_delta_index_key.Goals as goal

pub returns : goal.returns
returns c = let all = told refused.index_key_number index_key_words _ c.index_key-x.ensures (c.tell_index_key.ensures.value, c.tell_index_key.ensures.out_after) in record {
  value = all.0;
  out_after = all.1;
}
