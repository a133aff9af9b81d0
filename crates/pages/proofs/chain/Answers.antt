-- `pages::chain` meets its contract. Assumes nothing.
use native.Mathlib.Omega.{arith}
use Prim.Native.Nat.{ℕ, ◌+◌, ◌-◌}
use mathlib.Core.Path.{◌≡◌, sym, ap, ◌∙◌}
use Rattle.pages.specs.Sound.{chain_from}
use Rattle.pages.proofs.InHand.{held-old, turned-is, turned_bad, turn_young, turn_more}
use Rattle.pages.proofs.Turns.{chain_end}
use Rattle.pages.proofs.chain.Goals as goal

pub loop-init : goal.loop-init
loop-init c = let z : c.args.n ≡ c.args.n - 0 = omega arith in
    (c.requires.held, c.requires.i_le_elems, ap (λ (m : ℕ). chain_from c.args.s.now m c.args.first.page c.args.i c.args.t) z)

pub spot_at-requires : goal.spot_at-requires
spot_at-requires c = record {
  held = c.loop.invariant.0;
  i_le_elems = c.loop.invariant.1;
}

pub returns-in_default : goal.returns-in_default
returns-in_default c = record {
  ok_value = sym (c.loop.invariant.2 ∙ turned_bad c.args.s.now c.loop.hand c.loop.slot c.spot_at.result c.spot_at.ensures c.in_default.is (c.args.n - c.loop.counter) c.loop.ver (omega arith));
  held_2 = c.loop.invariant.0;
}

pub old_ver-v-requires : goal.old_ver-v-requires
old_ver-v-requires c = let g = (turned-is c.args.s.now c.loop.hand c.loop.slot c.spot_at.result c.spot_at.ensures c.in-Some.p c.in-Some.is) in
    record {
      held = g.held;
      i_lt_elems = g.slot;
    }

pub returns-else-newer : goal.returns-else-newer
returns-else-newer c = record {
  ok_value = sym (c.loop.invariant.2 ∙ turn_young c.args.s.now c.loop.hand c.loop.slot (c.args.n - c.loop.counter) c.loop.ver (omega arith) c.in-Some.p (turned-is c.args.s.now c.loop.hand c.loop.slot c.spot_at.result c.spot_at.ensures c.in-Some.p c.in-Some.is) _ c.old_ver-v.ensures (sym c.newer.ensures ∙ c.if-newer.false));
  held_2 = c.loop.invariant.0;
}

pub overflow_add-slot : goal.overflow_add-slot
overflow_add-slot c = let g = (turned-is c.args.s.now c.loop.hand c.loop.slot c.spot_at.result c.spot_at.ensures c.in-Some.p c.in-Some.is) in
    omega (arith, (held-old c.args.s.now c.in-Some.p.hand c.in-Some.p.slot g.held g.slot).slot, c.well_formed)

pub loop-preserved : goal.loop-preserved
loop-preserved c = let g = (turned-is c.args.s.now c.loop.hand c.loop.slot c.spot_at.result c.spot_at.ensures c.in-Some.p c.in-Some.is) in
    let k : c.args.n - c.loop.counter - 1 ≡ c.args.n - (c.loop.counter + 1) = omega arith in
    (g.held, omega (arith, g.slot), c.loop.invariant.2 ∙ turn_more c.args.s.now c.loop.hand c.loop.slot (c.args.n - c.loop.counter) c.loop.ver (omega arith) c.in-Some.p g _ c.old_ver-v.ensures (sym c.newer.ensures ∙ c.if-newer.true) ∙ ap (λ (m : ℕ). chain_from c.args.s.now m c.in-Some.p.hand.page (c.in-Some.p.slot + 1) c.old_ver-v.result) k)

pub returns : goal.returns
returns c = record {
  ok_value = sym (c.loop.invariant.2 ∙ chain_end c.args.s.now (c.args.n - c.loop.counter) c.loop.hand.page c.loop.slot c.loop.ver (omega (arith, c.loop-test.false)));
  held_2 = c.loop.invariant.0;
}
