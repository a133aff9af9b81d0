-- `overlay::laid_by` meets its contract. Assumes nothing.
use Rattle.std.proofs.Common.{Ok, Err, rules}
use mathlib.Core.Path.{sym, ◌∙◌, ap, ◌≡◌}
use Rattle.overlay.specs.Overlay.{laid_by}
use Rattle.search_head.proofs.Heads.{head_inside}
use Rattle.overlay.proofs.laid_by.Goals as goal

pub returns-then-mine : goal.returns-then-mine
unfolding laid_by
returns-then-mine c = simp (← c.head_at.ensures, c.in_ok-head.was, c.in-Nothing.is, c.if-mine.true, c.delta_value.ensures)

pub returns-then-mine-newer : goal.returns-then-mine-newer
unfolding laid_by
returns-then-mine-newer c = simp (← c.head_at.ensures, c.in_ok-head.was, c.in-Is.is, ← c.newer.ensures, c.if-mine-newer.true, c.delta_value-then-mine-newer.ensures)

pub page_value-requires : goal.page_value-requires
page_value-requires c = head_inside c.args.s.now c.args.a c.args.probe.now _ _ _ _ _ (sym c.head_at.ensures ∙ c.in_ok-head.was ∙ ap Ok c.in-Is.is)

pub returns-in_err-head : goal.returns-in_err-head
unfolding laid_by
returns-in_err-head c = let refused : c.from_residual.result ≡ Err c.in_err-head.field-0.0 = search rules in
    refused ∙ simp (← c.head_at.ensures, c.in_err-head.was)

pub returns-else-mine : goal.returns-else-mine
unfolding laid_by
returns-else-mine c = simp (← c.head_at.ensures, c.in_ok-head.was, c.in-Nothing.is, c.if-mine.false)

pub returns-else-mine-newer : goal.returns-else-mine-newer
unfolding laid_by
returns-else-mine-newer c = simp (← c.head_at.ensures, c.in_ok-head.was, c.in-Is.is, ← c.newer.ensures, c.if-mine-newer.false, c.page_value.ensures)
