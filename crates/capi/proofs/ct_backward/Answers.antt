-- `capi::ct_backward` meets its contract. Assumes nothing.
use mathlib.Core.Path.{ap, ◌∙◌}
use lib.IntN.{ℤ}
use mir.Syntax.{w64}
use mir.Val.{to_z, of_z}
use mir.ValLaws.{to_z-of_z}
use Rattle.frames.specs.Layout.{addr}
use Rattle.walks.specs.Walk.{backward_at}
use Rattle.walks.specs.Refused.{begun_number}
use Rattle.c_answers.specs.Answers.{begun_words}
use Rattle.c_words.proofs.Laws.{told}
use Rattle.capi.proofs.ct_backward.Goals as goal

pub returns : goal.returns
returns c = let all = let e = c.backward-x.ensures
    ∙ ap (λ (i : ℤ). backward_at c.args.arena.now (addr c.args.at) i (to_z w64 (of_z w64 c.args.end))) (to_z-of_z w64 c.args.start c.ranges.start)
    ∙ ap (λ (j : ℤ). backward_at c.args.arena.now (addr c.args.at) c.args.start j) (to_z-of_z w64 c.args.end c.ranges.end) in
    told begun_number begun_words _ e (c.tell_begun.ensures.value, c.tell_begun.ensures.walk_after) in record {
      value = all.0;
      walk_after = all.1;
    }
