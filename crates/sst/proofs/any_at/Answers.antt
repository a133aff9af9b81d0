use Rattle.values.specs.Keys.{key_parts}
use Rattle.std.proofs.Common.{Some}
use native.Mathlib.Omega.{arith}
use mathlib.Core.Path.{◌≡◌, sym, ◌∙◌}
use Rattle.records.specs.Records.{key_at_slot}
use Rattle.sst.proofs.Opens.{key-at-inside}
use Rattle.sst.proofs.Compared.{key-less, key_equal, key_greater, key_bad, lent}
use Rattle.sst.proofs.any_at.Goals as goal

pub returns-in_err-k : goal.returns-in_err-k
returns-in_err-k c = c.from_residual.ensures ∙ sym (key_bad c.args.s.now c.args.b c.args.rest.now c.args.w c.args.i (sym c.key_at.ensures ∙ c.in_err-k.was))

pub overflow_add-e : goal.overflow_add-e
overflow_add-e c = let s = c.args.s.now in
    let b = c.args.b in
    let rest = c.args.rest.now in
    let v = c.in_ok-k.k.ver_at in
    let r = c.in_ok-k.k.rest_at in
    let n = c.in_ok-k.k.rest_len in
    let k : key_at_slot s b c.args.i ≡ Some (key_parts v r n) = sym c.key_at.ensures ∙ c.in_ok-k.was in
    let z = key-at-inside s b c.args.i v r n c.requires k in
    omega (arith, z.rest, c.requires.payload, c.requires.arena, c.well_formed)

pub slice_bounds-compare-end : goal.slice_bounds-compare-end
slice_bounds-compare-end c = let s = c.args.s.now in
    let b = c.args.b in
    let rest = c.args.rest.now in
    let v = c.in_ok-k.k.ver_at in
    let r = c.in_ok-k.k.rest_at in
    let n = c.in_ok-k.k.rest_len in
    let k : key_at_slot s b c.args.i ≡ Some (key_parts v r n) = sym c.key_at.ensures ∙ c.in_ok-k.was in
    let z = key-at-inside s b c.args.i v r n c.requires k in
    omega (arith, z.rest, c.requires.payload, c.requires.arena)

pub equal_at-requires : goal.equal_at-requires
equal_at-requires c = let s = c.args.s.now in
    let b = c.args.b in
    let rest = c.args.rest.now in
    let v = c.in_ok-k.k.ver_at in
    let r = c.in_ok-k.k.rest_at in
    let n = c.in_ok-k.k.rest_len in
    let k : key_at_slot s b c.args.i ≡ Some (key_parts v r n) = sym c.key_at.ensures ∙ c.in_ok-k.was in
    let z = key-at-inside s b c.args.i v r n c.requires k in
    omega (arith, z.ver, z.rest, c.requires.payload, c.requires.arena)

pub returns-in-Less : goal.returns-in-Less
returns-in-Less c = let s = c.args.s.now in
    let b = c.args.b in
    let rest = c.args.rest.now in
    let v = c.in_ok-k.k.ver_at in
    let r = c.in_ok-k.k.rest_at in
    let n = c.in_ok-k.k.rest_len in
    let k : key_at_slot s b c.args.i ≡ Some (key_parts v r n) = sym c.key_at.ensures ∙ c.in_ok-k.was in
    sym (key-less s b rest c.args.w v r n c.args.i k (sym (lent s rest r n) ∙ sym c.compare.ensures ∙ c.in-Less.is))

pub returns-in-Equal : goal.returns-in-Equal
returns-in-Equal c = let s = c.args.s.now in
    let b = c.args.b in
    let rest = c.args.rest.now in
    let v = c.in_ok-k.k.ver_at in
    let r = c.in_ok-k.k.rest_at in
    let n = c.in_ok-k.k.rest_len in
    let k : key_at_slot s b c.args.i ≡ Some (key_parts v r n) = sym c.key_at.ensures ∙ c.in_ok-k.was in
    c.equal_at.ensures ∙ sym (key_equal s b rest c.args.w v r n c.args.i k (sym (lent s rest r n) ∙ sym c.compare.ensures ∙ c.in-Equal.is))

pub returns-in-Greater : goal.returns-in-Greater
returns-in-Greater c = let s = c.args.s.now in
    let b = c.args.b in
    let rest = c.args.rest.now in
    let v = c.in_ok-k.k.ver_at in
    let r = c.in_ok-k.k.rest_at in
    let n = c.in_ok-k.k.rest_len in
    let k : key_at_slot s b c.args.i ≡ Some (key_parts v r n) = sym c.key_at.ensures ∙ c.in_ok-k.was in
    sym (key_greater s b rest c.args.w v r n c.args.i k (sym (lent s rest r n) ∙ sym c.compare.ensures ∙ c.in-Greater.is))
