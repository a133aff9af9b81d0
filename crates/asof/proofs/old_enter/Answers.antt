-- `asof::old_enter` meets its contract. Assumes nothing.
use mathlib.Core.Path.{sym, ap, ◌∙◌}
use Rattle.asof.specs.AsOf.{old_enter}
use Rattle.walks.specs.declared.OldPlace.{OldPlace}
use Rattle.walks.specs.Walk.{enter_at}
use Rattle.asof.specs.AsOf.{old_in}
use Rattle.asof.proofs.old_enter.Goals as goal

pub returns-in-Some : goal.returns-in-Some
unfolding old_enter
returns-in-Some c = let e = sym (ap (λ (p : OldPlace). enter_at c.args.s.now c.args.h p) c.no_older.ensures) ∙ sym c.enter.ensures ∙ c.in-Some.is in
    c.old_as_of.ensures ∙ ap (old_in c.args.s.now c.args.v c.args.slot c.args.reads) (sym e)

pub returns-in-None : goal.returns-in-None
unfolding old_enter
returns-in-None c = let e = sym (ap (λ (p : OldPlace). enter_at c.args.s.now c.args.h p) c.no_older.ensures) ∙ sym c.enter.ensures ∙ c.in-None.is in
    ap (old_in c.args.s.now c.args.v c.args.slot c.args.reads) (sym e)
