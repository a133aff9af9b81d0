-- `capi::ct_lower_bound` meets its contract. Assumes nothing.
use mathlib.Core.Path.{ap, ◌∙◌}
use Rattle.order.specs.declared.Ver.{Ver}
use Rattle.frames.specs.Layout.{addr}
use Rattle.sst.specs.Refused.{bound_number}
use Rattle.sst.specs.Search.{lower_at}
use Rattle.c_answers.specs.Answers.{bound_words}
use Rattle.c_words.proofs.Laws.{told}
use Rattle.capi.proofs.ct_lower_bound.Goals as goal

pub returns : goal.returns
returns c = let all = told bound_number bound_words _ (c.lower_bound-x.ensures ∙ ap (λ (v : Ver). lower_at c.args.arena.now (addr c.args.at) c.args.key.now v) c.new.ensures) (c.tell_bound.ensures.value, c.tell_bound.ensures.out_after) in record {
  value = all.0;
  out_after = all.1;
}
