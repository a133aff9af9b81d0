-- `c_answers::tell_laid` meets its contract. Assumes nothing.
use Rattle.std.proofs.Common.{Ok}
use mathlib.Core.Path.{refl, sym, ap, ◌∙◌}
use Rattle.overlay.specs.Overlay.{laid_number}
use Rattle.c_words.specs.Words.{written}
use Rattle.c_answers.specs.Answers.{laid_words}
use Rattle.c_words.proofs.Laws.{written_none, told}
use Rattle.c_answers.proofs.tell_laid.Goals as goal

pub returns-in-Delta : goal.returns-in-Delta
unfolding written
returns-in-Delta c = let all = told laid_number laid_words _ (sym (c.in-Ok.is ∙ ap Ok c.in-Delta.is)) (refl, c.store_three.ensures) in record {
  value = all.0;
  out_after = all.1;
}

pub returns-in-Page : goal.returns-in-Page
unfolding written
returns-in-Page c = let all = told laid_number laid_words _ (sym (c.in-Ok.is ∙ ap Ok c.in-Page.is)) (refl, c.store_three-in-Page.ensures) in record {
  value = all.0;
  out_after = all.1;
}

pub returns-in-Nothing : goal.returns-in-Nothing
unfolding written
returns-in-Nothing c = let all = told laid_number laid_words _ (sym (c.in-Ok.is ∙ ap Ok c.in-Nothing.is)) (refl, c.store_three-in-Nothing.ensures) in record {
  value = all.0;
  out_after = all.1;
}

pub returns-in-Err : goal.returns-in-Err
returns-in-Err c = let all = told laid_number laid_words _ (sym c.in-Err.is) (c.no.ensures, sym (written_none _)) in record {
  value = all.0;
  out_after = all.1;
}
