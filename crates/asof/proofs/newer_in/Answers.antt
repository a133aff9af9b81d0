-- `asof::newer_in` meets its contract. Assumes nothing.
use native.Mathlib.Omega.{arith}
use Prim.Native.Nat.{◌+◌, ◌-◌}
use mathlib.Core.Path.{◌≡◌, sym, ◌∙◌}
use Rattle.records.proofs.Inside.{slot-inside}
use Rattle.walks.proofs.Lying.{body-inside}
use Rattle.asof.proofs.Hand.{passes_none, passes_more}
use Rattle.asof.proofs.newer_in.Goals as goal

pub returns-then-b-gt-MAX_KEY : goal.returns-then-b-gt-MAX_KEY
returns-then-b-gt-MAX_KEY c = passes_none _ _ _ (omega (arith, c.well_formed))

pub loop-n-init : goal.loop-n-init
loop-n-init c = passes_none _ _ _ (omega (arith, c.well_formed))

pub overflow_add-from : goal.overflow_add-from
overflow_add-from c = omega (arith, c.loop-n.invariant.word)

pub slot_at-requires : goal.slot_at-requires
slot_at-requires c = body-inside c.args.s.now c.args.from.page 2 c.args.b c.requires

pub returns-in_default : goal.returns-in_default
returns-in_default c = c.loop-n.invariant

pub overflow_sub-b : goal.overflow_sub-b
overflow_sub-b c = omega (arith, (slot-inside c.args.s.now c.args.b (c.args.from.slot + c.loop-n.n) c.in-Some.p (sym c.slot_at.ensures ∙ c.in-Some.is)).1)

pub returns-then-b-p-lt12 : goal.returns-then-b-p-lt12
returns-then-b-p-lt12 c = c.loop-n.invariant

pub ver_at-requires : goal.ver_at-requires
ver_at-requires c = let i = body-inside c.args.s.now c.args.from.page 2 c.args.b c.requires in
    let k = slot-inside c.args.s.now c.args.b (c.args.from.slot + c.loop-n.n) c.in-Some.p (sym c.slot_at.ensures ∙ c.in-Some.is) in
    omega (arith, c.if-b-p-lt12.false, k.1, i.payload, i.arena)

pub loop-n-preserved : goal.loop-n-preserved
loop-n-preserved c = let k = slot-inside c.args.s.now c.args.b (c.args.from.slot + c.loop-n.n) c.in-Some.p (sym c.slot_at.ensures ∙ c.in-Some.is) in
    passes_more c.args.s.now c.args.v c.args.from c.args.b c.requires c.loop-n.n c.loop-n.invariant (omega (arith, c.well_formed)) (omega arith) c.in-Some.p (sym c.slot_at.ensures ∙ c.in-Some.is) (omega (arith, c.if-b-p-lt12.false, k.1)) (omega (arith, c.if-b-gt-MAX_KEY.false)) c.ver_at.ensures (sym c.newer.ensures ∙ c.if-not-newer.false)

pub returns-then-not-newer : goal.returns-then-not-newer
returns-then-not-newer c = c.loop-n.invariant

pub returns : goal.returns
returns c = let e : c.loop-n.n ≡ c.args.from.left = omega (arith, c.loop-n.invariant.few, c.loop-n-test.false) in rw e at c.loop-n.invariant
