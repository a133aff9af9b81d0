-- `c_answers::tell_hints` meets its contract. Assumes nothing.
use Rattle.std.proofs.Common.{Ok}
use mathlib.Core.Path.{refl, sym, ap, ◌∙◌}
use Rattle.pages.specs.Refused.{hints_number}
use Rattle.c_words.specs.Words.{written}
use Rattle.c_answers.specs.Answers.{hints_words}
use Rattle.c_words.proofs.Laws.{written_none, told}
use Rattle.c_answers.proofs.tell_hints.Goals as goal

pub returns-in-Some : goal.returns-in-Some
unfolding written
returns-in-Some c = let all = told hints_number hints_words _ (sym (c.in-Ok.is ∙ ap Ok c.in-Some.is)) (refl, c.store_two.ensures) in record {
  value = all.0;
  out_after = all.1;
}

pub returns-in-None : goal.returns-in-None
unfolding written
returns-in-None c = let all = told hints_number hints_words _ (sym (c.in-Ok.is ∙ ap Ok c.in-None.is)) (refl, c.store_two-in-None.ensures) in record {
  value = all.0;
  out_after = all.1;
}

pub returns-in-Err : goal.returns-in-Err
returns-in-Err c = let all = told hints_number hints_words _ (sym c.in-Err.is) (c.no.ensures, sym (written_none _)) in record {
  value = all.0;
  out_after = all.1;
}
