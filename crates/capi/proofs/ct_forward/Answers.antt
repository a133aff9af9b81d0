-- `capi::ct_forward` meets its contract. Assumes nothing.
use Rattle.walks.specs.Refused.{begun_number}
use Rattle.c_answers.specs.Answers.{begun_words}
use Rattle.c_words.proofs.Laws.{told}
use Rattle.capi.proofs.ct_forward.Goals as goal

pub returns : goal.returns
returns c = let all = told begun_number begun_words _ c.forward-x.ensures (c.tell_begun.ensures.value, c.tell_begun.ensures.walk_after) in record {
  value = all.0;
  walk_after = all.1;
}
