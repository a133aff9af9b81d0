-- `pages::leaf_ok` meets its contract. Assumes nothing.
use native.Mathlib.Omega.{arith}
use mathlib.Core.Path.{refl, sym, ◌∙◌}
use mathlib.Core.Logic.{inl}
use Rattle.records.proofs.Inside.{at-inside, ver-inside}
use Rattle.pages.proofs.Turns.{slots_bad, slots_gap, slots_fall, slots_more, slots_start, slots_end, chains_broken, chains_more, chains_start, chains-end, recs-slots, recs-chains, recs_both}
use Rattle.pages.proofs.leaf_ok.Goals as goal

pub loop-i-init : goal.loop-i-init
loop-i-init c = (omega arith, inl refl, slots_start c.args.s.now c.args.b, chains_start c.args.s.now c.args.b (λ e. omega (arith, c.requires.kind_value)))

pub head_at-requires : goal.head_at-requires
head_at-requires c = record {
  inside = c.requires.inside;
  kind_value = c.requires.kind_value;
}

pub returns-in_default : goal.returns-in_default
returns-in_default c = sym (recs-slots c.args.s.now c.args.b (c.loop-i.invariant.2 ∙ slots_bad c.args.s.now c.args.b c.args.b.elems _ _ _ _ (omega arith) (sym c.head_at.ensures ∙ c.in_default.is)))

pub returns-then-head-want : goal.returns-then-head-want
returns-then-head-want c = sym (recs-slots c.args.s.now c.args.b (c.loop-i.invariant.2 ∙ slots_gap c.args.s.now c.args.b c.args.b.elems _ _ _ _ (omega arith) c.in-Some.head (sym c.head_at.ensures ∙ c.in-Some.is) c.if-head-want.true))

pub in_order-requires : goal.in_order-requires
in_order-requires c = let k = (at-inside c.args.s.now c.args.b c.loop-i.i c.in-Some.head c.requires.inside (sym c.head_at.ensures ∙ c.in-Some.is)).0 in
    (c.loop-i.invariant.0, omega (arith, k.rest, c.requires.inside.payload, c.requires.inside.arena))

pub returns-then-not-in_order : goal.returns-then-not-in_order
returns-then-not-in_order c = sym (recs-slots c.args.s.now c.args.b (c.loop-i.invariant.2 ∙ slots_fall c.args.s.now c.args.b c.args.b.elems _ _ _ _ (omega arith) c.in-Some.head (sym c.head_at.ensures ∙ c.in-Some.is) c.if-head-want.false (sym c.in_order.ensures ∙ c.if-not-in_order.true)))

pub head_ok-h-requires : goal.head_ok-h-requires
head_ok-h-requires c = record {
  ver_at_in_bounds = ver-inside c.args.s.now c.args.b c.loop-i.i c.in-Some.head c.requires.inside (λ e. omega (arith, c.requires.kind_value)) (sym c.head_at.ensures ∙ c.in-Some.is);
  known = c.loop-i.invariant.1;
}

pub loop-i-preserved : goal.loop-i-preserved
loop-i-preserved c = let k = (at-inside c.args.s.now c.args.b c.loop-i.i c.in-Some.head c.requires.inside (sym c.head_at.ensures ∙ c.in-Some.is)).0 in
    (omega (arith, k.rest, c.requires.inside.payload, c.requires.inside.arena), c.head_ok-h.ensures.known_2, c.loop-i.invariant.2 ∙ slots_more c.args.s.now c.args.b c.args.b.elems _ _ _ _ (omega arith) c.in-Some.head (sym c.head_at.ensures ∙ c.in-Some.is) c.if-head-want.false (sym c.in_order.ensures ∙ c.if-not-in_order.false), rw c.multi_of-m.ensures (c.loop-i.invariant.3 ∙ chains_more c.args.s.now c.args.b c.args.b.elems _ _ (omega arith) c.in-Some.head (sym c.head_at.ensures ∙ c.in-Some.is) (sym c.head_ok-h.ensures.ok_value ∙ c.if-h.true)))

pub returns-else-h : goal.returns-else-h
returns-else-h c = sym (recs-chains c.args.s.now c.args.b (c.loop-i.invariant.3 ∙ chains_broken c.args.s.now c.args.b c.args.b.elems _ _ (omega arith) c.in-Some.head (sym c.head_at.ensures ∙ c.in-Some.is) (sym c.head_ok-h.ensures.ok_value ∙ c.if-h.false)))

pub returns : goal.returns
returns c = sym (recs_both c.args.s.now c.args.b _ (c.loop-i.invariant.2 ∙ slots_end c.args.s.now c.args.b c.args.b.elems _ _ _ _ (omega arith)) (c.loop-i.invariant.3 ∙ chains-end c.args.s.now c.args.b c.args.b.elems _ _ (omega arith)))
