-- `c_answers::tell_hint` meets its contract. Assumes nothing.
use Rattle.frames.specs.declared.Addr.{Addr}
use Rattle.std.proofs.Common.{Option}
use mathlib.Core.Path.{refl, sym}
use Rattle.c_words.specs.Words.{written}
use Rattle.c_answers.specs.Answers.{hint_words}
use Rattle.c_words.proofs.Laws.{told}
use Rattle.c_answers.proofs.tell_hint.Goals as goal

pub returns-in-Some : goal.returns-in-Some
unfolding written
returns-in-Some c = let all = told (λ (x : Option Addr). 0) hint_words _ (sym c.in-Some.is) (refl, c.store.ensures) in record {
  value = all.0;
  out_after = all.1;
}

pub returns-in-None : goal.returns-in-None
unfolding written
returns-in-None c = let all = told (λ (x : Option Addr). 0) hint_words _ (sym c.in-None.is) (refl, c.store-in-None.ensures) in record {
  value = all.0;
  out_after = all.1;
}
