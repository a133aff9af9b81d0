-- `c_answers::tell_bound` meets its contract. Assumes nothing.
use Rattle.std.proofs.Common.{Ok}
use mathlib.Core.Path.{refl, sym, ap, ◌∙◌}
use Rattle.sst.specs.Refused.{bound_number}
use Rattle.c_words.specs.Words.{written}
use Rattle.c_answers.specs.Answers.{bound_words}
use Rattle.c_words.proofs.Laws.{written_none, told}
use Rattle.c_answers.proofs.tell_bound.Goals as goal

pub returns-in-At : goal.returns-in-At
unfolding written
returns-in-At c = let all = told bound_number bound_words _ (sym (c.in-Ok.is ∙ ap Ok c.in-At.is)) (refl, c.store_three.ensures) in record {
  value = all.0;
  out_after = all.1;
}

pub returns-in-PastEnd : goal.returns-in-PastEnd
unfolding written
returns-in-PastEnd c = let all = told bound_number bound_words _ (sym (c.in-Ok.is ∙ ap Ok c.in-PastEnd.is)) (refl, c.store_three-in-PastEnd.ensures) in record {
  value = all.0;
  out_after = all.1;
}

pub returns-in-Err : goal.returns-in-Err
returns-in-Err c = let all = told bound_number bound_words _ (sym c.in-Err.is) (c.no.ensures, sym (written_none _)) in record {
  value = all.0;
  out_after = all.1;
}
