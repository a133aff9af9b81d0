-- `c_answers::tell_found` meets its contract. Assumes nothing.
use Rattle.std.proofs.Common.{Ok}
use mathlib.Core.Path.{refl, sym, ap, ◌∙◌}
use Rattle.spans.proofs.Put.{put_chain}
use Rattle.sst.specs.Refused.{found_number}
use Rattle.c_words.specs.Words.{written}
use Rattle.c_answers.specs.Answers.{found_words}
use Rattle.c_words.proofs.Laws.{written_none, told}
use Rattle.c_answers.proofs.tell_found.Goals as goal

pub returns-in-Is : goal.returns-in-Is
unfolding written
returns-in-Is c = let all = told found_number found_words _ (sym (c.in-Ok.is ∙ ap Ok c.in-Is.is)) (refl, put_chain _ 0 _ _ c.store_nine.ensures c.store.ensures refl) in record {
  value = all.0;
  out_after = all.1;
}

pub returns-in-Nothing : goal.returns-in-Nothing
unfolding written
returns-in-Nothing c = let all = told found_number found_words _ (sym (c.in-Ok.is ∙ ap Ok c.in-Nothing.is)) (refl, put_chain _ 0 _ _ c.store_five.ensures c.store_five-in-Nothing.ensures refl) in record {
  value = all.0;
  out_after = all.1;
}

pub returns-in-Err : goal.returns-in-Err
returns-in-Err c = let all = told found_number found_words _ (sym c.in-Err.is) (c.no.ensures, sym (written_none _)) in record {
  value = all.0;
  out_after = all.1;
}
