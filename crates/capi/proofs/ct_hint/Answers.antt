-- `capi::ct_hint` meets its contract. Assumes nothing.
use Rattle.frames.specs.declared.Addr.{Addr}
use Rattle.std.proofs.Common.{Option}
use Rattle.c_answers.specs.Answers.{hint_words}
use Rattle.c_words.proofs.Laws.{told}
use Rattle.capi.proofs.ct_hint.Goals as goal

pub returns : goal.returns
returns c = let all = told (λ (x : Option Addr). 0) hint_words _ c.hint_at-x.ensures (c.tell_hint.ensures.value, c.tell_hint.ensures.out_after) in record {
  value = all.0;
  out_after = all.1;
}
