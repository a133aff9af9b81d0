-- `pages::bounded` meets its contract. Assumes nothing.
use mathlib.Core.Path.{sym, ◌∙◌}
use native.Mathlib.Omega.{arith}
use Prim.Native.Nat.{◌-◌}
use Rattle.pages.proofs.Ends.{bounds_none, bounds-some, no_bad}
use Rattle.pages.proofs.bounded.Goals as goal

pub returns-then-b-eq0 : goal.returns-then-b-eq0
returns-then-b-eq0 c = bounds_none c.args.s.now c.args.b c.requires.inside _ _ c.part_of-lo.ensures c.part_of-hi.ensures c.if-b-eq0.true _ _ c.compare.ensures c.below_by.ensures

pub returns-in_default : goal.returns-in_default
returns-in_default c = no_bad c.args.s.now c.args.b 0 c.requires.b_value (omega (arith, c.if-b-eq0.false)) (sym c.rec_at.ensures ∙ c.in_default.is)

pub rec_at-requires-2 : goal.rec_at-requires-2
rec_at-requires-2 c = c.requires.inside

pub returns-in_default-rec_at : goal.returns-in_default-rec_at
returns-in_default-rec_at c = no_bad c.args.s.now c.args.b (c.args.b.elems - 1) c.requires.b_value (omega (arith, c.if-b-eq0.false)) (sym c.rec_at-2.ensures ∙ c.in_default-rec_at.is)

pub returns : goal.returns
returns c = bounds-some c.args.s.now c.args.b c.requires.inside _ _ c.part_of-lo.ensures c.part_of-hi.ensures c.requires.b_value c.requires.fact c.if-b-eq0.false c.in-Some.x c.in-Some-rec_at.y (sym c.rec_at.ensures ∙ c.in-Some.is) (sym c.rec_at-2.ensures ∙ c.in-Some-rec_at.is) _ _ _ c.part_of-p.ensures c.part_of.ensures c.part_of-2.ensures _ _ _ _ c.compare_joined-low.ensures c.compare_joined-high.ensures c.is_less.ensures c.below_by-2.ensures
