-- `walks::OldPlace::next` meets its contract. Assumes nothing.
use native.Mathlib.Omega.{arith}
use mathlib.Core.Path.{sym, ap, ◌∙◌}
use Rattle.walks.proofs.Turns.{from, next-from, turned_left}
use Rattle.walks.proofs.OldPlace.next.Goals as goal

pub returns-in_default : goal.returns-in_default
returns-in_default c = sym (next-from c.args.s.now c.args.key c.args.self ∙ ap (from c.args.s.now c.args.key) (sym c.turned.ensures ∙ c.in_default.is))

pub here-requires : goal.here-requires
here-requires c = let e = turned_left c.args.s.now c.args.self c.in-Some.older c.in-Some.named (sym c.turned.ensures ∙ c.in-Some.is) in
    omega (arith, e, c.requires)

pub returns : goal.returns
returns c = c.here.ensures ∙ sym (next-from c.args.s.now c.args.key c.args.self ∙ ap (from c.args.s.now c.args.key) (sym c.turned.ensures ∙ c.in-Some.is))
