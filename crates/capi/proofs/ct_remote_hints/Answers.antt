-- `capi::ct_remote_hints` meets its contract. Assumes nothing.
use Rattle.pages.specs.Refused.{hints_number}
use Rattle.c_answers.specs.Answers.{hints_words}
use Rattle.c_words.proofs.Laws.{told}
use Rattle.capi.proofs.ct_remote_hints.Goals as goal

pub returns : goal.returns
returns c = let all = told hints_number hints_words _ c.remote_hints-x.ensures (c.tell_hints.ensures.value, c.tell_hints.ensures.out_after) in record {
  value = all.0;
  out_after = all.1;
}
