use native.Mathlib.Omega.{arith}
use Prim.Native.Nat.{◌+◌, ◌-◌}
use lib.ListN.{length}
use Rattle.sst.specs.Halve.{mid}
use Rattle.sst.specs.Search.{key_cmp, leaves}
use Rattle.sst.proofs.Compared.{lent_length}
use Rattle.sst.proofs.Narrows.{marked_lies, goes_begin, none_met, narrow_less, narrow_greater, narrow_met}
use Rattle.sst.proofs.narrow.Goals as goal

pub loop-lo-init : goal.loop-lo-init
loop-lo-init c = λ w. goes_begin (key_cmp c.args.s.now c.args.b c.args.rest.now w) c.args.b.elems c.args.from.lo c.args.from.hi c.args.from.reads c.requires.hi_le_elems.0 c.requires.hi_le_elems.1

pub overflow_add-mid : goal.overflow_add-mid
overflow_add-mid c = omega (arith, (c.loop-lo.invariant leaves).inside, c.loop-lo-test.true, c.requires.inside.slots, c.requires.inside.records, c.requires.inside.payload, c.requires.inside.arena, c.well_formed)

pub marked_at-requires : goal.marked_at-requires
marked_at-requires c = record {
  inside = c.requires.inside;
  i_lt_elems = (omega (arith, (c.loop-lo.invariant leaves).inside, c.loop-lo-test.true), c.requires.marks.small);
}

pub returns-in_default : goal.returns-in_default
returns-in_default c = record { goes = c.loop-lo.invariant; met = none_met c.args.s.now c.args.b c.args.rest.now (mid c.loop-lo.lo c.loop-lo.hi) }

pub overflow_add-q : goal.overflow_add-q
overflow_add-q c = let s = c.args.s.now in
    let b = c.args.b in
    let rest = c.args.rest.now in
    let p = c.in-Some.p in
    let k = marked_lies s b (mid c.loop-lo.lo c.loop-lo.hi) c.args.mark (length rest) p c.skip_of-skip.result c.marked_at.result c.requires.inside c.requires.marks c.marked_at.ensures c.in-Some.is c.skip_of-skip.ensures in
    omega (arith, k.inside, c.well_formed)

pub overflow_add-q-in-loop-lo : goal.overflow_add-q-in-loop-lo
overflow_add-q-in-loop-lo c = let s = c.args.s.now in
    let b = c.args.b in
    let rest = c.args.rest.now in
    let p = c.in-Some.p in
    let k = marked_lies s b (mid c.loop-lo.lo c.loop-lo.hi) c.args.mark (length rest) p c.skip_of-skip.result c.marked_at.result c.requires.inside c.requires.marks c.marked_at.ensures c.in-Some.is c.skip_of-skip.ensures in
    omega (arith, k.inside, c.well_formed)

pub overflow_add-e : goal.overflow_add-e
overflow_add-e c = let s = c.args.s.now in
    let b = c.args.b in
    let rest = c.args.rest.now in
    let p = c.in-Some.p in
    let k = marked_lies s b (mid c.loop-lo.lo c.loop-lo.hi) c.args.mark (length rest) p c.skip_of-skip.result c.marked_at.result c.requires.inside c.requires.marks c.marked_at.ensures c.in-Some.is c.skip_of-skip.ensures in
    omega (arith, k.inside, c.well_formed)

pub slice_bounds-pair_of-end : goal.slice_bounds-pair_of-end
slice_bounds-pair_of-end c = let s = c.args.s.now in
    let b = c.args.b in
    let rest = c.args.rest.now in
    let p = c.in-Some.p in
    let k = marked_lies s b (mid c.loop-lo.lo c.loop-lo.hi) c.args.mark (length rest) p c.skip_of-skip.result c.marked_at.result c.requires.inside c.requires.marks c.marked_at.ensures c.in-Some.is c.skip_of-skip.ensures in
    omega (arith, k.inside, c.well_formed)

pub pair_of-d-requires : goal.pair_of-d-requires
pair_of-d-requires c = let s = c.args.s.now in
    let b = c.args.b in
    let rest = c.args.rest.now in
    let p = c.in-Some.p in
    let k = marked_lies s b (mid c.loop-lo.lo c.loop-lo.hi) c.args.mark (length rest) p c.skip_of-skip.result c.marked_at.result c.requires.inside c.requires.marks c.marked_at.ensures c.in-Some.is c.skip_of-skip.ensures in
    lent_length s (p + 1 + c.skip_of-skip.result) (length rest) k.inside

pub returns-then-d-2 : goal.returns-then-d-2
returns-then-d-2 c = let s = c.args.s.now in
    let b = c.args.b in
    let rest = c.args.rest.now in
    let p = c.in-Some.p in
    let k = marked_lies s b (mid c.loop-lo.lo c.loop-lo.hi) c.args.mark (length rest) p c.skip_of-skip.result c.marked_at.result c.requires.inside c.requires.marks c.marked_at.ensures c.in-Some.is c.skip_of-skip.ensures in
    record { goes = c.loop-lo.invariant; met = narrow_met s b rest (mid c.loop-lo.lo c.loop-lo.hi) p c.skip_of-skip.result c.pair_of-d.result c.skip_of-skip.ensures c.pair_of-d.ensures c.if-d.true c.if-d-2.true k.key }

pub returns-then-d : goal.returns-then-d
returns-then-d c = record { goes = c.loop-lo.invariant; met = none_met c.args.s.now c.args.b c.args.rest.now (mid c.loop-lo.lo c.loop-lo.hi) }

pub overflow_add-reads : goal.overflow_add-reads
overflow_add-reads c = omega (arith, (c.loop-lo.invariant leaves).fuel, c.loop-lo-test.true, c.requires.inside.slots, c.requires.inside.records, c.requires.inside.payload, c.requires.inside.arena, c.well_formed)

pub overflow_add-lo : goal.overflow_add-lo
overflow_add-lo c = omega (arith, (c.loop-lo.invariant leaves).inside, c.loop-lo-test.true, c.requires.inside.slots, c.requires.inside.records, c.requires.inside.payload, c.requires.inside.arena, c.well_formed)

pub loop-lo-smaller-then-d-3 : goal.loop-lo-smaller-then-d-3
loop-lo-smaller-then-d-3 c = omega (arith, c.loop-lo-test.true)

pub loop-lo-preserved-then-d-3 : goal.loop-lo-preserved-then-d-3
loop-lo-preserved-then-d-3 c = let s = c.args.s.now in
    let b = c.args.b in
    let rest = c.args.rest.now in
    let p = c.in-Some.p in
    let k = marked_lies s b (mid c.loop-lo.lo c.loop-lo.hi) c.args.mark (length rest) p c.skip_of-skip.result c.marked_at.result c.requires.inside c.requires.marks c.marked_at.ensures c.in-Some.is c.skip_of-skip.ensures in
    narrow_less s b rest (p + 1 + c.skip_of-skip.result) c.pair_of-d.result c.pair_of-d.ensures c.args.from.lo c.args.from.hi c.args.from.reads c.loop-lo.lo c.loop-lo.hi c.loop-lo.reads (p + 1) c.loop-lo.invariant c.loop-lo-test.true k.key c.if-d-3.true

pub loop-lo-smaller : goal.loop-lo-smaller
loop-lo-smaller c = omega (arith, c.loop-lo-test.true)

pub loop-lo-preserved : goal.loop-lo-preserved
loop-lo-preserved c = let s = c.args.s.now in
    let b = c.args.b in
    let rest = c.args.rest.now in
    let p = c.in-Some.p in
    let k = marked_lies s b (mid c.loop-lo.lo c.loop-lo.hi) c.args.mark (length rest) p c.skip_of-skip.result c.marked_at.result c.requires.inside c.requires.marks c.marked_at.ensures c.in-Some.is c.skip_of-skip.ensures in
    narrow_greater s b rest (p + 1 + c.skip_of-skip.result) c.pair_of-d.result c.pair_of-d.ensures c.args.from.lo c.args.from.hi c.args.from.reads c.loop-lo.lo c.loop-lo.hi c.loop-lo.reads (p + 1) c.loop-lo.invariant c.loop-lo-test.true k.key c.if-d.false c.if-d-3.false

pub returns : goal.returns
returns c = record { goes = c.loop-lo.invariant; met = none_met c.args.s.now c.args.b c.args.rest.now (mid c.loop-lo.lo c.loop-lo.hi) }
