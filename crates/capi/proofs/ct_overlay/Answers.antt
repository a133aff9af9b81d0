-- `capi::ct_overlay` meets its contract. Assumes nothing.
use Rattle.overlay.specs.Overlay.{laid_number}
use Rattle.c_answers.specs.Answers.{laid_words}
use Rattle.c_words.proofs.Laws.{told}
use Rattle.capi.proofs.ct_overlay.Goals as goal

pub returns : goal.returns
returns c = let all = told laid_number laid_words _ c.answer-x.ensures (c.tell_laid.ensures.value, c.tell_laid.ensures.out_after) in record {
  value = all.0;
  out_after = all.1;
}
