-- `asof::as_of` meets its contract. Assumes nothing.
use Rattle.std.proofs.Common.{Ok, Err, rules}
use mathlib.Core.Path.{◌≡◌, sym, ap, ◌∙◌}
use Rattle.asof.specs.AsOf.{handed_of, as_of_at}
use Rattle.search_head.proofs.Heads.{head_inside}
use Rattle.asof.specs.AsOf.{head_pick, as_of_head}
use Rattle.asof.proofs.as_of.Goals as goal

pub older_as_of-requires : goal.older_as_of-requires
older_as_of-requires c = head_inside c.args.s.now c.args.a c.args.probe.now _ _ _ _ _ (sym c.head_at.ensures ∙ c.in_ok-head.was ∙ ap Ok c.in-Is.is)

pub returns-then-newer : goal.returns-then-newer
unfolding as_of_at
returns-then-newer c = let n = sym c.newer.ensures ∙ c.if-newer.true in
    c.older_as_of.ensures ∙ ap (head_pick c.args.s.now c.args.v _ _ _ _ _) (sym n) ∙ ap (as_of_head c.args.s.now c.args.v) (sym (sym c.head_at.ensures ∙ c.in_ok-head.was ∙ ap Ok c.in-Is.is))

pub rec_at-requires : goal.rec_at-requires
rec_at-requires c = head_inside c.args.s.now c.args.a c.args.probe.now _ _ _ _ _ (sym c.head_at.ensures ∙ c.in_ok-head.was ∙ ap Ok c.in-Is.is)

pub returns-in_err-head : goal.returns-in_err-head
unfolding as_of_at
returns-in_err-head c = let refused : c.from_residual.result ≡ Err c.in_err-head.field-0.0 = search rules in
    refused ∙ ap (as_of_head c.args.s.now c.args.v) (sym (sym c.head_at.ensures ∙ c.in_err-head.was))

pub returns-in-Nothing : goal.returns-in-Nothing
unfolding as_of_at
returns-in-Nothing c = ap (as_of_head c.args.s.now c.args.v) (sym (sym c.head_at.ensures ∙ c.in_ok-head.was ∙ ap Ok c.in-Nothing.is))

pub returns-else-newer : goal.returns-else-newer
unfolding as_of_at
returns-else-newer c = let n = sym c.newer.ensures ∙ c.if-newer.false in
    c.handed.ensures ∙ ap (handed_of _ _ _) c.rec_at.ensures ∙ ap (head_pick c.args.s.now c.args.v _ _ _ _ _) (sym n) ∙ ap (as_of_head c.args.s.now c.args.v) (sym (sym c.head_at.ensures ∙ c.in_ok-head.was ∙ ap Ok c.in-Is.is))
