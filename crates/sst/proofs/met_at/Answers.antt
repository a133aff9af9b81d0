use native.Mathlib.Omega.{arith}
use Prim.Native.Nat.{◌+◌}
use mathlib.Core.Path.{◌∙◌}
use lib.ListN.{length}
use Rattle.values.specs.Keys.{skip_of}
use Rattle.sst.proofs.Opens.{key-at-inside}
use Rattle.sst.proofs.Narrows.{met-key}
use Rattle.sst.proofs.met_at.Goals as goal

pub overflow_add-p : goal.overflow_add-p
overflow_add-p c = let p = c.in-Some.p in
    let z = key-at-inside c.args.s.now c.args.b c.args.i (p + 1) (p + 1 + skip_of c.args.b.kind) (length c.args.rest.now) c.requires.inside (c.requires.met.key p c.in-Some.is) in
    omega (arith, z.rest, c.requires.inside.payload, c.requires.inside.arena, c.well_formed)

pub equal_at-requires : goal.equal_at-requires
equal_at-requires c = let p = c.in-Some.p in
    let z = key-at-inside c.args.s.now c.args.b c.args.i (p + 1) (p + 1 + skip_of c.args.b.kind) (length c.args.rest.now) c.requires.inside (c.requires.met.key p c.in-Some.is) in
    omega (arith, z.rest, c.requires.inside.payload, c.requires.inside.arena)

pub returns-in-Some : goal.returns-in-Some
returns-in-Some c = c.equal_at.ensures ∙ met-key c.args.s.now c.args.b c.args.rest.now c.args.w c.args.i c.in-Some.p c.args.met c.requires.met c.in-Some.is
