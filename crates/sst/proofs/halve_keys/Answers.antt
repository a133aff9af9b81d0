use Rattle.std.proofs.Common.{Some}
use native.Mathlib.Omega.{arith}
use Prim.Native.Nat.{◌-◌}
use mathlib.Core.Path.{sym, ◌∙◌, ap}
use Rattle.sst.specs.Search.{key_cmp}
use Rattle.sst.proofs.Narrows.{goes_begin, goes_on, goes-less, goes_greater, goes_equal, goes_bad, goes_end}
use Rattle.sst.proofs.halve_keys.Goals as goal

pub mark_of-mark-requires : goal.mark_of-mark-requires
mark_of-mark-requires c = omega (arith, c.requires.prefix, c.requires.slots, c.requires.records, c.requires.payload, c.requires.arena, c.well_formed)

pub loop-lo-init : goal.loop-lo-init
loop-lo-init c = let f = key_cmp c.args.s.now c.args.b c.args.rest.now c.args.w in
    let n = c.args.b.elems in
    goes_begin f n 0 n 0 (omega arith) (omega arith)

pub narrow-g-requires : goal.narrow-g-requires
narrow-g-requires c = record {
  inside = c.requires;
  marks = c.mark_of-mark.ensures;
  hi_le_elems = (c.loop-lo.invariant.inside, c.loop-lo.invariant.fuel);
}

pub overflow_add-mid : goal.overflow_add-mid
overflow_add-mid c = omega (arith, (c.narrow-g.ensures.goes c.args.w).inside, c.if-lo-hi.true, c.requires.slots, c.requires.records, c.requires.payload, c.requires.arena, c.well_formed)

pub overflow_add-reads : goal.overflow_add-reads
overflow_add-reads c = omega (arith, (c.narrow-g.ensures.goes c.args.w).fuel, c.if-lo-hi.true, c.requires.slots, c.requires.records, c.requires.payload, c.requires.arena, c.well_formed)

pub met_at-requires : goal.met_at-requires
met_at-requires c = record {
  inside = c.requires;
  met = c.narrow-g.ensures.met;
}

pub overflow_add-lo : goal.overflow_add-lo
overflow_add-lo c = omega (arith, (c.narrow-g.ensures.goes c.args.w).inside, c.if-lo-hi.true, c.requires.slots, c.requires.records, c.requires.payload, c.requires.arena, c.well_formed)

pub loop-lo-smaller-in-Less : goal.loop-lo-smaller-in-Less
loop-lo-smaller-in-Less c = omega (arith, (c.narrow-g.ensures.goes c.args.w).less, c.if-lo-hi.true)

pub loop-lo-preserved-in-Less : goal.loop-lo-preserved-in-Less
loop-lo-preserved-in-Less c = let f = key_cmp c.args.s.now c.args.b c.args.rest.now c.args.w in
    let n = c.args.b.elems in
    let t = c.narrow-g.result in
    let g = goes_on f n 0 n 0 c.loop-lo.lo c.loop-lo.hi c.loop-lo.reads c.loop-lo.invariant t.lo t.hi t.reads (c.narrow-g.ensures.goes c.args.w) in
    goes-less f n 0 n 0 t.lo t.hi t.reads g c.if-lo-hi.true (sym c.met_at.ensures ∙ c.in_ok-order.was ∙ ap Some c.in-Less.is)

pub loop-lo-smaller-in-Greater : goal.loop-lo-smaller-in-Greater
loop-lo-smaller-in-Greater c = omega (arith, (c.narrow-g.ensures.goes c.args.w).less, c.if-lo-hi.true)

pub loop-lo-preserved-in-Greater : goal.loop-lo-preserved-in-Greater
loop-lo-preserved-in-Greater c = let f = key_cmp c.args.s.now c.args.b c.args.rest.now c.args.w in
    let n = c.args.b.elems in
    let t = c.narrow-g.result in
    let g = goes_on f n 0 n 0 c.loop-lo.lo c.loop-lo.hi c.loop-lo.reads c.loop-lo.invariant t.lo t.hi t.reads (c.narrow-g.ensures.goes c.args.w) in
    goes_greater f n 0 n 0 t.lo t.hi t.reads g c.if-lo-hi.true (sym c.met_at.ensures ∙ c.in_ok-order.was ∙ ap Some c.in-Greater.is)

pub returns-in-Equal : goal.returns-in-Equal
returns-in-Equal c = let f = key_cmp c.args.s.now c.args.b c.args.rest.now c.args.w in
    let n = c.args.b.elems in
    let t = c.narrow-g.result in
    let g = goes_on f n 0 n 0 c.loop-lo.lo c.loop-lo.hi c.loop-lo.reads c.loop-lo.invariant t.lo t.hi t.reads (c.narrow-g.ensures.goes c.args.w) in
    goes_equal f n t.lo t.hi t.reads g c.if-lo-hi.true (sym c.met_at.ensures ∙ c.in_ok-order.was ∙ ap Some c.in-Equal.is)

pub returns-in_err-order : goal.returns-in_err-order
returns-in_err-order c = c.from_residual.ensures ∙ let f = key_cmp c.args.s.now c.args.b c.args.rest.now c.args.w in
    let n = c.args.b.elems in
    let t = c.narrow-g.result in
    let g = goes_on f n 0 n 0 c.loop-lo.lo c.loop-lo.hi c.loop-lo.reads c.loop-lo.invariant t.lo t.hi t.reads (c.narrow-g.ensures.goes c.args.w) in
    goes_bad f n t.lo t.hi t.reads g c.if-lo-hi.true (sym c.met_at.ensures ∙ c.in_err-order.was)

pub loop-lo-smaller : goal.loop-lo-smaller
loop-lo-smaller c = omega (arith, c.if-lo-hi.false, c.loop-lo-test.true)

pub loop-lo-preserved : goal.loop-lo-preserved
loop-lo-preserved c = let f = key_cmp c.args.s.now c.args.b c.args.rest.now c.args.w in
    let n = c.args.b.elems in
    let t = c.narrow-g.result in
    let g = goes_on f n 0 n 0 c.loop-lo.lo c.loop-lo.hi c.loop-lo.reads c.loop-lo.invariant t.lo t.hi t.reads (c.narrow-g.ensures.goes c.args.w) in
    g

pub returns : goal.returns
returns c = let f = key_cmp c.args.s.now c.args.b c.args.rest.now c.args.w in
    let n = c.args.b.elems in
    goes_end f n c.loop-lo.lo c.loop-lo.hi c.loop-lo.reads c.loop-lo.invariant c.loop-lo-test.false
