-- `capi::ct_as_of` meets its contract. Assumes nothing.
use mathlib.Core.Path.{ap, ◌∙◌}
use Rattle.order.specs.declared.Ver.{Ver}
use Rattle.frames.specs.Layout.{addr}
use Rattle.asof.specs.AsOf.{as_of_at}
use Rattle.asof.specs.Refused.{as_of_number}
use Rattle.c_answers.specs.Answers.{as_of_words}
use Rattle.c_words.proofs.Laws.{told}
use Rattle.capi.proofs.ct_as_of.Goals as goal

pub returns : goal.returns
returns c = let all = told as_of_number as_of_words _ (c.as_of-x.ensures ∙ ap (λ (v : Ver). as_of_at c.args.arena.now (addr c.args.at) c.args.key.now v) c.new.ensures) (c.tell_as_of.ensures.value, c.tell_as_of.ensures.out_after) in record {
  value = all.0;
  out_after = all.1;
}
