-- `c_answers::tell_page` meets its contract. Assumes nothing.
use mathlib.Core.Path.{refl, sym}
use Rattle.spans.proofs.Put.{put_chain}
use Rattle.pages.specs.Refused.{bounds_number}
use Rattle.c_words.specs.Words.{written}
use Rattle.c_answers.specs.Answers.{bounds_words}
use Rattle.c_words.proofs.Laws.{written_none, told}
use Rattle.c_answers.proofs.tell_page.Goals as goal

pub returns-in-Ok : goal.returns-in-Ok
unfolding written
returns-in-Ok c = let all = told bounds_number (bounds_words c.args.kind c.args.elems) _ (sym c.in-Ok.is) (refl, put_chain _ 0 _ _ (put_chain _ 0 _ _ c.store_three.ensures c.store_three-in-Ok.ensures refl) c.store_three-in-Ok-2.ensures refl) in record {
  value = all.0;
  out_after = all.1;
}

pub returns-in-Err : goal.returns-in-Err
returns-in-Err c = let all = told bounds_number (bounds_words c.args.kind c.args.elems) _ (sym c.in-Err.is) (c.no.ensures, sym (written_none _)) in record {
  value = all.0;
  out_after = all.1;
}
