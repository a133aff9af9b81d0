-- `capi::ct_search` meets its contract. Assumes nothing.
use Rattle.sst.specs.Refused.{found_number}
use Rattle.c_answers.specs.Answers.{found_words}
use Rattle.c_words.proofs.Laws.{told}
use Rattle.capi.proofs.ct_search.Goals as goal

pub returns : goal.returns
returns c = let all = told found_number found_words _ c.search_ver_val_by_raw-x.ensures (c.tell_found.ensures.value, c.tell_found.ensures.out_after) in record {
  value = all.0;
  out_after = all.1;
}
