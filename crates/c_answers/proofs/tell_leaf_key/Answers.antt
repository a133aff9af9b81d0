-- `c_answers::tell_leaf_key` meets its contract. Assumes nothing.
use mathlib.Core.Path.{refl, sym}
use Rattle.spans.proofs.Put.{put_chain}
use Rattle.delta.specs.Refused as refused
use Rattle.c_words.specs.Words.{written}
use Rattle.c_answers.specs.Answers.{leaf_key_words}
use Rattle.c_words.proofs.Laws.{written_none, told}
use Rattle.c_answers.proofs.tell_leaf_key.Goals as goal

pub returns-in-Ok : goal.returns-in-Ok
unfolding written
returns-in-Ok c = let all = told refused.leaf_key_number leaf_key_words _ (sym c.in-Ok.is) (refl, put_chain _ 0 _ _ c.store_two.ensures c.store_two-in-Ok.ensures refl) in record {
  value = all.0;
  out_after = all.1;
}

pub returns-in-Err : goal.returns-in-Err
returns-in-Err c = let all = told refused.leaf_key_number leaf_key_words _ (sym c.in-Err.is) (c.no.ensures, sym (written_none _)) in record {
  value = all.0;
  out_after = all.1;
}
