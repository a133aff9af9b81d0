-- `c_answers::tell_child` meets its contract. Assumes nothing.
use mathlib.Core.Path.{refl, sym}
use Rattle.delta.specs.Refused as refused
use Rattle.c_words.specs.Words.{written}
use Rattle.c_answers.specs.Answers.{child_words}
use Rattle.c_words.proofs.Laws.{written_none, told}
use Rattle.c_answers.proofs.tell_child.Goals as goal

pub returns-in-Ok : goal.returns-in-Ok
unfolding written
returns-in-Ok c = let all = told refused.child_number child_words _ (sym c.in-Ok.is) (refl, c.store.ensures) in record {
  value = all.0;
  out_after = all.1;
}

pub returns-in-Err : goal.returns-in-Err
returns-in-Err c = let all = told refused.child_number child_words _ (sym c.in-Err.is) (c.no.ensures, sym (written_none _)) in record {
  value = all.0;
  out_after = all.1;
}
