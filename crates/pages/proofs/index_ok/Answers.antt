-- `pages::index_ok` meets its contract. Assumes nothing.
use native.Mathlib.Omega.{arith}
use mathlib.Core.Path.{sym, ap, ◌∙◌}
use Rattle.records.specs.Records.{child_of}
use Rattle.records.proofs.Inside.{at-inside}
use Rattle.pages.proofs.Turns.{slots_bad, slots_gap, slots_fall, slots_more, slots_start, slots_end, recs_index}
use Rattle.pages.proofs.index_ok.Goals as goal

pub loop-i-init : goal.loop-i-init
loop-i-init c = (omega arith, sym (recs_index c.args.s.now c.args.b c.requires.kind_value) ∙ slots_start c.args.s.now c.args.b)

pub child_at-requires : goal.child_at-requires
child_at-requires c = record {
  inside = c.requires.inside;
  kind_value = c.requires.kind_value;
}

pub returns-in_default : goal.returns-in_default
returns-in_default c = sym (c.loop-i.invariant.1 ∙ slots_bad c.args.s.now c.args.b c.args.b.elems _ _ _ _ (omega arith) (c.child_at.ensures ∙ ap child_of c.in_default.is))

pub returns-then-child-want : goal.returns-then-child-want
returns-then-child-want c = sym (c.loop-i.invariant.1 ∙ slots_gap c.args.s.now c.args.b c.args.b.elems _ _ _ _ (omega arith) _ (c.child_at.ensures ∙ ap child_of c.in-Some.is) c.if-child-want.true)

pub rises-requires : goal.rises-requires
rises-requires c = let k = (at-inside c.args.s.now c.args.b c.loop-i.i _ c.requires.inside (c.child_at.ensures ∙ ap child_of c.in-Some.is)).0 in
    (c.loop-i.invariant.0, omega (arith, k.rest, c.requires.inside.payload, c.requires.inside.arena))

pub overflow_add-want : goal.overflow_add-want
overflow_add-want c = let k = (at-inside c.args.s.now c.args.b c.loop-i.i _ c.requires.inside (c.child_at.ensures ∙ ap child_of c.in-Some.is)).0 in
    omega (arith, k.rest, c.requires.inside.payload, c.requires.inside.arena, c.well_formed)

pub overflow_add-want-then-rises : goal.overflow_add-want-then-rises
overflow_add-want-then-rises c = let k = (at-inside c.args.s.now c.args.b c.loop-i.i _ c.requires.inside (c.child_at.ensures ∙ ap child_of c.in-Some.is)).0 in
    omega (arith, k.next, c.requires.inside.payload, c.requires.inside.arena, c.well_formed)

pub loop-i-preserved : goal.loop-i-preserved
loop-i-preserved c = let k = (at-inside c.args.s.now c.args.b c.loop-i.i _ c.requires.inside (c.child_at.ensures ∙ ap child_of c.in-Some.is)).0 in
    (omega (arith, k.rest, c.requires.inside.payload, c.requires.inside.arena), c.loop-i.invariant.1 ∙ slots_more c.args.s.now c.args.b c.args.b.elems _ _ _ _ (omega arith) _ (c.child_at.ensures ∙ ap child_of c.in-Some.is) c.if-child-want.false (sym c.rises.ensures ∙ c.if-rises.true))

pub returns-else-rises : goal.returns-else-rises
returns-else-rises c = sym (c.loop-i.invariant.1 ∙ slots_fall c.args.s.now c.args.b c.args.b.elems _ _ _ _ (omega arith) _ (c.child_at.ensures ∙ ap child_of c.in-Some.is) c.if-child-want.false (sym c.rises.ensures ∙ c.if-rises.false))

pub returns : goal.returns
returns c = sym (c.loop-i.invariant.1 ∙ slots_end c.args.s.now c.args.b c.args.b.elems _ _ _ _ (omega arith))
