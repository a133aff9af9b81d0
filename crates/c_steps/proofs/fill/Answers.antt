-- `c_steps::fill` meets its contract. Assumes nothing.
use native.Mathlib.Omega.{arith}
use Prim.Native.Nat.{◌-◌}
use mathlib.Core.Path.{subst}
use Rattle.c_steps.specs.declared.Turn.{Turn}
use Rattle.c_steps.specs.Turns.{Turns}
use Rattle.c_steps.proofs.Running.{filling_begin, filling_join, filling_stop, filling_full}
use Rattle.c_steps.proofs.Ways.{known_none}
use Rattle.c_steps.proofs.fill.Goals as goal

pub loop-k-init : goal.loop-k-init
loop-k-init c = (filling_begin _ _ _ _ _, known_none _ _)

pub next-requires : goal.next-requires
next-requires c = record {
  known_older = c.loop-k.invariant.1;
  room_nonzero = omega (arith, c.loop-k-test.true);
  fit_le_room = (omega (arith, c.less.ensures, c.whole_in-fit.ensures.upper_bound), omega (arith, c.less.ensures, c.whole_in-fit.ensures.result_bound, c.loop-k.invariant.0.place, c.loop-k.invariant.0.long));
  room_bound = omega (arith, c.loop-k.invariant.0.place, c.loop-k.invariant.0.few, c.requires);
}

pub overflow_mul-at : goal.overflow_mul-at
overflow_mul-at c = (let q : Turns c.args.s.now (c.args.room - c.loop-k.k) c.loop-k.at c.loop-k.w c.loop-k.out (Turn.On c.in-On.n c.in-On.v c.in-On.seen) c.next.new.out = subst (λ (z : Turn). Turns c.args.s.now (c.args.room - c.loop-k.k) c.loop-k.at c.loop-k.w c.loop-k.out z c.next.new.out) c.in-On.is c.next.ensures in omega (arith, q.0.few, c.requires))

pub overflow_add-at : goal.overflow_add-at
overflow_add-at c = (let q : Turns c.args.s.now (c.args.room - c.loop-k.k) c.loop-k.at c.loop-k.w c.loop-k.out (Turn.On c.in-On.n c.in-On.v c.in-On.seen) c.next.new.out = subst (λ (z : Turn). Turns c.args.s.now (c.args.room - c.loop-k.k) c.loop-k.at c.loop-k.w c.loop-k.out z c.next.new.out) c.in-On.is c.next.ensures in omega (arith, q.0.few, c.loop-k.invariant.0.place, c.loop-k.invariant.0.few, c.requires))

pub overflow_add-k : goal.overflow_add-k
overflow_add-k c = (let q : Turns c.args.s.now (c.args.room - c.loop-k.k) c.loop-k.at c.loop-k.w c.loop-k.out (Turn.On c.in-On.n c.in-On.v c.in-On.seen) c.next.new.out = subst (λ (z : Turn). Turns c.args.s.now (c.args.room - c.loop-k.k) c.loop-k.at c.loop-k.w c.loop-k.out z c.next.new.out) c.in-On.is c.next.ensures in omega (arith, q.0.few, c.loop-k.invariant.0.few, c.requires))

pub loop-k-smaller : goal.loop-k-smaller
loop-k-smaller c = (let q : Turns c.args.s.now (c.args.room - c.loop-k.k) c.loop-k.at c.loop-k.w c.loop-k.out (Turn.On c.in-On.n c.in-On.v c.in-On.seen) c.next.new.out = subst (λ (z : Turn). Turns c.args.s.now (c.args.room - c.loop-k.k) c.loop-k.at c.loop-k.w c.loop-k.out z c.next.new.out) c.in-On.is c.next.ensures in omega (arith, q.1.1, c.loop-k-test.true))

pub loop-k-preserved : goal.loop-k-preserved
loop-k-preserved c = (let q : Turns c.args.s.now (c.args.room - c.loop-k.k) c.loop-k.at c.loop-k.w c.loop-k.out (Turn.On c.in-On.n c.in-On.v c.in-On.seen) c.next.new.out = subst (λ (z : Turn). Turns c.args.s.now (c.args.room - c.loop-k.k) c.loop-k.at c.loop-k.w c.loop-k.out z c.next.new.out) c.in-On.is c.next.ensures in (filling_join _ _ _ _ _ _ _ _ _ c.loop-k.invariant.0 _ _ _ _ q.0, q.1.0))

pub returns-in-Stop : goal.returns-in-Stop
returns-in-Stop c = let all = let q = subst (λ (z : Turn). Turns c.args.s.now (c.args.room - c.loop-k.k) c.loop-k.at c.loop-k.w c.loop-k.out z c.next.new.out) c.in-Stop.is c.next.ensures in filling_stop _ _ _ _ _ _ _ _ _ c.loop-k.invariant.0 _ _ q in record {
  value = all.0;
  out_after = all.1;
}

pub returns : goal.returns
returns c = let all = filling_full _ _ _ _ _ _ _ _ _ c.loop-k.invariant.0 c.loop-k-test.false in record {
  value = all.0;
  out_after = all.1;
}
