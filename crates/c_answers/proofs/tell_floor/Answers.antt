-- `c_answers::tell_floor` meets its contract. Assumes nothing.
use Rattle.std.proofs.Common.{Ok}
use mathlib.Core.Path.{refl, sym, ap, ◌∙◌}
use Rattle.spans.proofs.Put.{put_chain}
use Rattle.sst.specs.Refused.{floor_number}
use Rattle.c_words.specs.Words.{written}
use Rattle.c_answers.specs.Answers.{floor_words}
use Rattle.c_words.proofs.Laws.{written_none, told}
use Rattle.c_answers.proofs.tell_floor.Goals as goal

pub returns-in-Is : goal.returns-in-Is
unfolding written
returns-in-Is c = let all = told floor_number floor_words _ (sym (c.in-Ok.is ∙ ap Ok c.in-Is.is)) (refl, put_chain _ 0 _ _ c.store_two.ensures c.store_two-in-Is.ensures refl) in record {
  value = all.0;
  out_after = all.1;
}

pub returns-in-Nothing : goal.returns-in-Nothing
unfolding written
returns-in-Nothing c = let all = told floor_number floor_words _ (sym (c.in-Ok.is ∙ ap Ok c.in-Nothing.is)) (refl, put_chain _ 0 _ _ c.store_two-in-Nothing.ensures c.store_two-in-Nothing-2.ensures refl) in record {
  value = all.0;
  out_after = all.1;
}

pub returns-in-Err : goal.returns-in-Err
returns-in-Err c = let all = told floor_number floor_words _ (sym c.in-Err.is) (c.no.ensures, sym (written_none _)) in record {
  value = all.0;
  out_after = all.1;
}
