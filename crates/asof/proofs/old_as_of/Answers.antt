-- `asof::old_as_of` meets its contract. Assumes nothing.
use native.Mathlib.Omega.{arith}
use Rattle.std.proofs.Common.{Some}
use mathlib.Core.Path.{refl, sym, ap, subst, ◌∙◌}
use Rattle.asof.specs.declared.InHand.{InHand}
use Rattle.asof.specs.AsOf.{handed_of}
use Rattle.asof.specs.InHand.{GoesOn, InHands}
use Rattle.asof.proofs.Olds.{old-end, old_bad, old_newer, old-found}
use Rattle.walks.proofs.Ages.{aged-left}
use Rattle.asof.proofs.old_as_of.Goals as goal

pub loop-ver-init : goal.loop-ver-init
loop-ver-init c = refl

pub returns-in-Is : goal.returns-in-Is
returns-in-Is c = sym (subst (λ (y : InHand). InHands c.args.s.now c.args.v c.loop-ver.older y) c.in-Is.is c.in_hand.ensures c.args.slot c.args.reads) ∙ c.loop-ver.invariant

pub loop-ver-smaller : goal.loop-ver-smaller
loop-ver-smaller c = let g : GoesOn c.args.s.now c.args.v c.loop-ver.older c.in-On.here = subst (λ (y : InHand). InHands c.args.s.now c.args.v c.loop-ver.older y) c.in-On.is c.in_hand.ensures in
    let e = sym c.aged.ensures ∙ c.in-Some.is ∙ ap Some c.in-Is-aged.is in
    omega (arith, aged-left c.args.s.now c.in-On.here _ _ _ e, g.few)

pub loop-ver-preserved : goal.loop-ver-preserved
loop-ver-preserved c = let g : GoesOn c.args.s.now c.args.v c.loop-ver.older c.in-On.here = subst (λ (y : InHand). InHands c.args.s.now c.args.v c.loop-ver.older y) c.in-On.is c.in_hand.ensures in
    let e = sym c.aged.ensures ∙ c.in-Some.is ∙ ap Some c.in-Is-aged.is in
    let n = sym c.newer.ensures ∙ c.if-newer.true in
    sym (old_newer c.args.s.now c.args.v c.args.slot c.args.reads c.in-On.here _ _ _ e n) ∙ g.same c.args.slot c.args.reads ∙ c.loop-ver.invariant

pub returns-else-newer : goal.returns-else-newer
returns-else-newer c = let g : GoesOn c.args.s.now c.args.v c.loop-ver.older c.in-On.here = subst (λ (y : InHand). InHands c.args.s.now c.args.v c.loop-ver.older y) c.in-On.is c.in_hand.ensures in
    let e = sym c.aged.ensures ∙ c.in-Some.is ∙ ap Some c.in-Is-aged.is in
    let n = sym c.newer.ensures ∙ c.if-newer.false in
    c.handed.ensures ∙ ap (handed_of c.args.slot c.in-Is-aged.ver c.args.reads) c.read.ensures ∙ sym (old-found c.args.s.now c.args.v c.args.slot c.args.reads c.in-On.here _ _ _ e n) ∙ g.same c.args.slot c.args.reads ∙ c.loop-ver.invariant

pub returns-in-End : goal.returns-in-End
returns-in-End c = let g : GoesOn c.args.s.now c.args.v c.loop-ver.older c.in-On.here = subst (λ (y : InHand). InHands c.args.s.now c.args.v c.loop-ver.older y) c.in-On.is c.in_hand.ensures in
    sym (old-end c.args.s.now c.args.v c.args.slot c.args.reads c.in-On.here (sym c.aged.ensures ∙ c.in-Some.is ∙ ap Some c.in-End.is)) ∙ g.same c.args.slot c.args.reads ∙ c.loop-ver.invariant

pub returns-in_default : goal.returns-in_default
returns-in_default c = let g : GoesOn c.args.s.now c.args.v c.loop-ver.older c.in-On.here = subst (λ (y : InHand). InHands c.args.s.now c.args.v c.loop-ver.older y) c.in-On.is c.in_hand.ensures in
    sym (old_bad c.args.s.now c.args.v c.args.slot c.args.reads c.in-On.here (sym c.aged.ensures ∙ c.in_default.is)) ∙ g.same c.args.slot c.args.reads ∙ c.loop-ver.invariant
