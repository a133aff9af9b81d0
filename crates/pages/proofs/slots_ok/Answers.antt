-- `pages::slots_ok` meets its contract. Assumes nothing.
use native.Mathlib.Omega.{arith}
use mathlib.Core.Path.{sym, ◌∙◌}
use Rattle.records.proofs.Inside.{at-inside}
use Rattle.pages.proofs.Turns.{slots_bad, slots_gap, slots_fall, slots_more, slots_start, slots_end}
use Rattle.pages.proofs.slots_ok.Goals as goal

pub loop-i-init : goal.loop-i-init
loop-i-init c = (omega arith, slots_start c.args.s.now c.args.b)

pub old_or_child-requires : goal.old_or_child-requires
old_or_child-requires c = c.requires

pub returns-in_default : goal.returns-in_default
returns-in_default c = sym (c.loop-i.invariant.1 ∙ slots_bad c.args.s.now c.args.b c.args.b.elems _ _ _ _ (omega arith) (sym c.old_or_child.ensures ∙ c.in_default.is))

pub returns-then-r-want : goal.returns-then-r-want
returns-then-r-want c = sym (c.loop-i.invariant.1 ∙ slots_gap c.args.s.now c.args.b c.args.b.elems _ _ _ _ (omega arith) c.in-Some.r (sym c.old_or_child.ensures ∙ c.in-Some.is) c.if-r-want.true)

pub in_order-requires : goal.in_order-requires
in_order-requires c = let k = (at-inside c.args.s.now c.args.b c.loop-i.i c.in-Some.r c.requires (sym c.old_or_child.ensures ∙ c.in-Some.is)).0 in
    (c.loop-i.invariant.0, omega (arith, k.rest, c.requires.payload, c.requires.arena))

pub loop-i-preserved : goal.loop-i-preserved
loop-i-preserved c = let k = (at-inside c.args.s.now c.args.b c.loop-i.i c.in-Some.r c.requires (sym c.old_or_child.ensures ∙ c.in-Some.is)).0 in
    (omega (arith, k.rest, c.requires.payload, c.requires.arena), c.loop-i.invariant.1 ∙ slots_more c.args.s.now c.args.b c.args.b.elems _ _ _ _ (omega arith) c.in-Some.r (sym c.old_or_child.ensures ∙ c.in-Some.is) c.if-r-want.false (sym c.in_order.ensures ∙ c.if-in_order.true))

pub returns-else-in_order : goal.returns-else-in_order
returns-else-in_order c = sym (c.loop-i.invariant.1 ∙ slots_fall c.args.s.now c.args.b c.args.b.elems _ _ _ _ (omega arith) c.in-Some.r (sym c.old_or_child.ensures ∙ c.in-Some.is) c.if-r-want.false (sym c.in_order.ensures ∙ c.if-in_order.false))

pub returns : goal.returns
returns c = sym (c.loop-i.invariant.1 ∙ slots_end c.args.s.now c.args.b c.args.b.elems _ _ _ _ (omega arith))
